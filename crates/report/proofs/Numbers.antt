-- A line that is put from its end.
use Rattle.std.proofs.Common.{◌≡◌, ℕ, ◌+◌, ◌-◌, ◌^◌, ◌<◌, ◌≤◌, List, [], ◌∷◌, ◌++◌, length, get_or, set, drop, decimal, arith, append_assoc}
use Rattle.report.specs.Lines.{spaced}
use Rattle.std.proofs.lemmas.Fmt.{length-decimal-le}
use Rattle.std.proofs.lemmas.List.{drop_more, drop-set, drop_all}
use Rattle.std.specs.List.{flat_map}

pub at_most_twenty : (n : ℕ) → n < 2 ^ 64 → length (decimal n) ≤ 20
at_most_twenty n f = length-decimal-le 20 n (omega arith) (omega arith) f

-- A byte that is put before a place.
pub one_before :
    (bs : List ℕ) (at b : ℕ) → 0 < at → at ≤ length bs → drop (at - 1) (set bs (at - 1) b) ≡ b ∷ drop at bs
one_before bs at b h k = grind (arith, drop-set bs (at - 1) b)

pub last_byte :
    (bs : List ℕ) (at i b : ℕ) → at ≡ i → length bs ≡ i + 1 → drop at (set bs i b) ≡ b ∷ []
last_byte bs at i b e f = grind (arith, drop-set bs i b, drop_all (i + 1) bs)

-- With one number more before a text, it is the numbers from one place earlier on.
pub one_more :
    (ns : List ℕ) (i : ℕ) (bs before after : List ℕ) → 0 < i → i ≤ length ns →
    after ≡ spaced (get_or ns (i - 1) 0) ++ before → before ≡ flat_map spaced (drop i ns) ++ bs →
    after ≡ flat_map spaced (drop (i - 1) ns) ++ bs
one_more ns i bs before after h k e f = grind (arith, append_assoc, drop_more ns (i - 1) 0)
