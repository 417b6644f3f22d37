-- The product of two spans of labels.
use Rattle.index_tests.specs.declared.ends.Ends.{Ends}

-- the first label of the left, the last label of the right
abbrev pub spanned : Ends → Ends → Ends
spanned left right = record { first = left.first; last = right.last }
