pub mod Spans
pub mod VastPlan
pub mod VastSound
