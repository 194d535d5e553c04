-- Where the fields of a line stand in a file. Places count from 0.
use Rattle.std.specs.Prelude.{◌≡◌, ℕ, ◌+◌, ◌<◌, ◌≤◌, Bool, true, false, List, [], ◌∷◌, length, slice_index}
use Rattle.session.specs.Bytes.{is_space, is_feed, in_field}
use Rattle.std.specs.List.{between}

-- From place i up to place j stands the longest run of bytes that pass a test.
pub record Run (test : ℕ → Bool) (bs : List ℕ) (i j : ℕ) : Type 0 where
  pub order : i ≤ j
  pub within : j ≤ length bs
  pub each : (k : ℕ) → i ≤ k → k < j → test (slice_index bs k) ≡ true
  pub longest : j < length bs → test (slice_index bs j) ≡ false

-- From place i on, after spaces, the next field is the part of the file from place s up to place j.
pub record FieldAt (bs : List ℕ) (i s j : ℕ) (field : List ℕ) : Type 0 where
  pub spaces : Run is_space bs i s
  pub bytes : Run in_field bs s j
  pub some : s < j
  pub part : field ≡ between s j bs

-- From place i on, after spaces, the line feed stands at place j, or the file ends there.
pub record OverAt (bs : List ℕ) (i j : ℕ) : Type 0 where
  pub spaces : Run is_space bs i j
  pub feed : j < length bs → is_feed (slice_index bs j) ≡ true

-- From place i up to place j stands a line with its line feed; its fields begin at these places.
pub data LineAt (bs : List ℕ) : ℕ → List (List ℕ) → List ℕ → ℕ → Type 0 where
  over : {i j : ℕ} → OverAt bs i j → j < length bs → LineAt bs i [] [] (j + 1)
  more :
      {i s e j : ℕ} {field : List ℕ} {fields : List (List ℕ)} {places : List ℕ} → FieldAt bs i s e field →
      LineAt bs e fields places j → LineAt bs i (field ∷ fields) (s ∷ places) j
