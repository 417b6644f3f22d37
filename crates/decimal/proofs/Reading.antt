-- What was put at the start reads as the text.
use Rattle.std.proofs.Common.{◌≡◌, ℕ, ◌+◌, Bool, true, false, cond, leb, List, ◌++◌, length, take, drop, Some, None, arith}
use Rattle.std.proofs.Math.Seq.{take-append_seam}
use Rattle.decimal.specs.Put.{placed, placed_end}

front : (b : Bool) (t xs ys : List ℕ) (e : ℕ) → Some e ≡ cond b (Some (0 + length t)) None → take e (cond b (t ++ ys) xs) ≡ t
front true t xs ys e h = let m : e ≡ 0 + length t = cc in let n : e ≡ length t = omega (arith) in rw n (take-append_seam t ys)
front false t xs ys e h = absurd (let z : ◌≡◌ {A = ℕ} 0 1 = cc in omega arith)

-- the bytes up to the place after the text
pub read_back : (xs t : List ℕ) (e : ℕ) → Some e ≡ placed_end xs 0 t → take e (placed xs 0 t) ≡ t
unfolding placed placed_end
read_back xs t e h = front (leb (0 + length t) (length xs)) t xs (drop (0 + length t) xs) e h
