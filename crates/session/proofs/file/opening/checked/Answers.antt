use Rattle.std.proofs.lemmas.Result.{err_from_is_err_and}
use Rattle.session.proofs.file.opening.checked.Goals as goal

pub returns-in_err-check_records : goal.returns-in_err-check_records
returns-in_err-check_records c =
    let p = err_from_is_err_and c.from_residual-in_err-check_records.result c.from_residual-in_err-check_records.ensures.1 in
    let first = rw (c.in_ok-file.ensures.first, c.in_ok-read.ensures.first) at c.in_err-check_records.ensures.first in
    rw (p.1, p.2) (record { first = first; file = tt })
