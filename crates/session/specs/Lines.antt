-- The lines of a file and their fields.
use Rattle.std.specs.Prelude.{◌≡◌, ℕ, ◌+◌, Bool, true, false, cond, List, [], ◌∷◌, length, Some, None, Option, ◌==◌}
use Rattle.session.specs.Bytes.{is_space, is_feed}

-- The first line of some bytes, without its line feed, and the bytes after it; none if there is no line feed.
abbrev pub with_byte : ℕ → Option (List ℕ × List ℕ) → Option (List ℕ × List ℕ)
with_byte b None = None
with_byte b (Some p) = Some (b ∷ p.0, p.1)

abbrev pub first_line : List ℕ → Option (List ℕ × List ℕ)
first_line [] = None
first_line (b ∷ bs) = cond (is_feed b) (Some ([], bs)) (with_byte b (first_line bs))

-- The fields of a line: the bytes that are no spaces, neighbours in one field. Read from the right: a byte that is no
-- space goes to the front of the field that follows it, or begins a field where a space or the line's end follows.
abbrev pub ends_field : List ℕ → Bool
ends_field [] = true
ends_field (b ∷ bs) = is_space b

abbrev pub glued : ℕ → Bool → List (List ℕ) → List (List ℕ)
glued b true fs = (b ∷ []) ∷ fs
glued b false [] = (b ∷ []) ∷ []
glued b false (f ∷ fs) = (b ∷ f) ∷ fs

abbrev pub fields : List ℕ → List (List ℕ)
fields [] = []
fields (b ∷ bs) = cond (is_space b) (fields bs) (glued b (ends_field bs) (fields bs))

-- The fields of the first line, and the bytes after it.
abbrev pub in_fields : Option (List ℕ × List ℕ) → Option (List (List ℕ) × List ℕ)
in_fields None = None
in_fields (Some p) = Some (fields p.0, p.1)

abbrev pub next_line : List ℕ → Option (List (List ℕ) × List ℕ)
next_line bs = in_fields (first_line bs)

-- A field more at the front of a line.
abbrev pub with_field : List ℕ → Option (List (List ℕ) × List ℕ) → Option (List (List ℕ) × List ℕ)
with_field f None = None
with_field f (Some p) = Some (f ∷ p.0, p.1)

-- Whether there is a line and it has n fields.
abbrev pub has : ℕ → Option (List (List ℕ) × List ℕ) → Bool
has n None = false
has n (Some p) = length p.0 == n

-- There is no line, or it has no field.
abbrev pub NoField : Option (List (List ℕ) × List ℕ) → Type 0
NoField o = (n : ℕ) → has (n + 1) o ≡ false
