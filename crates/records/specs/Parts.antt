-- Records of one length that stand one after the other in a file.
use Rattle.std.specs.Prelude.{ℕ, ◌+◌, ◌*◌, Bool, List, length, nat_le}
use Rattle.std.specs.List.{between}

-- the bytes of the record at a place, of records of len bytes from start on
unfoldable pub part : ℕ → List ℕ → ℕ → ℕ → List ℕ
part len file start place = between (start + len * place) (start + len * place + len) file

-- whether so many records of len bytes from start on lie within the file
abbrev pub fits : ℕ → List ℕ → ℕ → ℕ → Bool
fits len file start count = nat_le (start + len * count) (length file)
