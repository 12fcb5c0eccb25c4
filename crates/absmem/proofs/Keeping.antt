-- What is known stays true when the stack is written.
use Rattle.std.proofs.Common.{◌≡◌, ◌≢◌, ℕ, zero, suc, ℤ, ◌+◌, ◌-◌, ◌*◌, ◌/◌, ◌%◌, ◌<◌, ◌≤◌, List, length, Bool, true, false, ◌&&◌, refl, sym, ap, subst, ◌∙◌, inl, inr, arith, get_or, set, get_or-set_same, get_or-set_other, replicate, [], ◌∷◌, ◌++◌, take, drop, append-nil}
use Rattle.std.proofs.lemmas.List.{take-append-drop}
use Rattle.std.specs.Prelude.{slice_range, nat_lt, if◌then◌else◌}
use Rattle.std.proofs.lemmas.Bool.{cases_lt, cases_eq, ltb-false}
use Rattle.semantics.specs.declared.value.Region.{Region}
use Rattle.semantics.specs.declared.value.Cell.{Cell}
use Rattle.semantics.specs.declared.value.Cell.TheVariants.{Empty}
use Rattle.semantics.specs.Memory.{overwritten, pieces_of}
use Rattle.absmem.specs.declared.spill.Spill.{Spill}
use Rattle.absmem.specs.declared.spill.Spill.TheVariants.{Free, Whole}
use Rattle.absmem.specs.Known.{Known, byte_at, spill_at, IsSetTo, IsFiled, left_of, joined_spill}
use Rattle.absmem.specs.Describes.{Describes, IsByte, IsByteIf, cell_at, AreBytes, StandsAt}
use Rattle.absmem.proofs.Overwriting.{cell-inside, cell-before, cell-behind, range-inside, range-before, range-behind}

is_byte_if : (t : Bool) (c : Cell) → IsByte c → IsByteIf t c
is_byte_if true c h = h
is_byte_if false c h = tt

-- ---- cells that are bytes

-- Bytes are stored where this is recorded.
pub bytes_put : (old new : List Bool) (cells bytes : List Cell) (place : ℕ) → IsSetTo true old new place (place + length bytes) → place + length bytes ≤ length cells →
    AreBytes bytes → ((k : ℕ) → IsByteIf (byte_at old k) (cell_at cells k)) → (k : ℕ) → IsByteIf (byte_at new k) (cell_at (overwritten cells place bytes) k)
bytes_put old new cells bytes place s fits are before k =
    elim (cases_lt k place) [
      | inl lt ↦ rw (s.before k lt, cell-before cells bytes place fits k Empty lt) (before k)
      | inr le ↦ elim (cases_lt k (place + length bytes)) [
        | inl lt ↦
            let here : k - place < length bytes = omega arith in
            rw (s.inside k le lt, cell-inside cells bytes place fits k Empty le lt) (are (k - place) here)
        | inr behind ↦ rw (s.behind k behind, cell-behind cells bytes place fits k Empty behind) (before k)
      ]
    ]

-- Bytes are stored somewhere.
pub bytes_spread : (flags : List Bool) (cells bytes : List Cell) (at : ℕ) → at + length bytes ≤ length cells →
    AreBytes bytes → ((k : ℕ) → IsByteIf (byte_at flags k) (cell_at cells k)) → (k : ℕ) → IsByteIf (byte_at flags k) (cell_at (overwritten cells at bytes) k)
bytes_spread flags cells bytes at fits are before k =
    elim (cases_lt k at) [
      | inl lt ↦ rw (cell-before cells bytes at fits k Empty lt) (before k)
      | inr le ↦ elim (cases_lt k (at + length bytes)) [
        | inl lt ↦
            let here : k - at < length bytes = omega arith in
            rw (cell-inside cells bytes at fits k Empty le lt) (is_byte_if (byte_at flags k) (get_or bytes (k - at) Empty) (are (k - at) here))
        | inr behind ↦ rw (cell-behind cells bytes at fits k Empty behind) (before k)
      ]
    ]

-- Something is stored where nothing is recorded.
pub bytes_hidden : (old new : List Bool) (cells written : List Cell) (place : ℕ) → IsSetTo false old new place (place + length written) → place + length written ≤ length cells →
    ((k : ℕ) → IsByteIf (byte_at old k) (cell_at cells k)) → (k : ℕ) → IsByteIf (byte_at new k) (cell_at (overwritten cells place written) k)
bytes_hidden old new cells written place s fits before k =
    elim (cases_lt k place) [
      | inl lt ↦ rw (s.before k lt, cell-before cells written place fits k Empty lt) (before k)
      | inr le ↦ elim (cases_lt k (place + length written)) [
        | inl lt ↦ rw (s.inside k le lt) tt
        | inr behind ↦ rw (s.behind k behind, cell-behind cells written place fits k Empty behind) (before k)
      ]
    ]

-- ---- pointers

-- If nothing is stored, all is as before.
nothing_written : (cells : List Cell) (place : ℕ) → cells ≡ overwritten cells place []
nothing_written cells place =
    let e : place ≡ place + 0 = omega arith in
    sym (ap (λ (l : List Cell). l ++ drop (place + 0) cells) (append-nil (take place cells)) ∙ (ap (λ (n : ℕ). take place cells ++ drop n cells) (sym e) ∙ take-append-drop place cells))

-- A pointer outside the window is still stored.
pub stands_left : (cells new : List Cell) (place end at b : ℕ) (spill : Spill) → place ≤ at → at + length new ≤ end → end ≤ length cells →
    StandsAt cells b spill → StandsAt (overwritten cells at new) b (left_of place end b spill)
stands_left cells new place end at b Free low high fits stands = tt
stands_left cells new place end at b (Whole shift region offset) low high fits stands =
    by_tests (nat_lt place end) (nat_lt (8 * b + shift) end) (nat_lt place (8 * b + shift + 8)) refl refl refl
  where
    room : at + length new ≤ length cells
    room = omega arith

    none : (written : List Cell) → length written ≡ 0 → StandsAt (overwritten cells at written) b (Whole shift region offset)
    none [] empty = subst (λ (all : List Cell). StandsAt all b (Whole shift region offset)) (nothing_written cells at) stands
    none (cell ∷ written) empty = absurd (omega (arith, empty))

    by_tests : (n s t : Bool) → n ≡ nat_lt place end → s ≡ nat_lt (8 * b + shift) end → t ≡ nat_lt place (8 * b + shift + 8) →
        StandsAt (overwritten cells at new) b (if (n && s) && t then Free else Whole shift region offset)
    by_tests true true true d e f = tt
    by_tests true true false d e f =
        let ge : 8 * b + shift + 8 ≤ place = ltb-false place (8 * b + shift + 8) (sym f) in
        let ordered : 8 * b + shift ≤ 8 * b + shift + 8 = omega arith in
        let before : 8 * b + shift + 8 ≤ at = omega arith in
        range-before cells new at room (8 * b + shift) (8 * b + shift + 8) ordered before ∙ stands
    by_tests true false t d e f =
        let ge : end ≤ 8 * b + shift = ltb-false (8 * b + shift) end (sym e) in
        let behind : at + length new ≤ 8 * b + shift = omega arith in
        range-behind cells new at room (8 * b + shift) (8 * b + shift + 8) behind ∙ stands
    by_tests false s t d e f =
        let ge : end ≤ place = ltb-false place end (sym d) in
        let empty : length new ≡ 0 = omega arith in
        none new empty

pub filed_left : (place end b : ℕ) (spill : Spill) → IsFiled b spill → IsFiled b (left_of place end b spill)
filed_left place end b Free filed = tt
filed_left place end b (Whole shift region offset) filed = by_test ((nat_lt place end && nat_lt (8 * b + shift) end) && nat_lt place (8 * b + shift + 8))
  where
    by_test : (t : Bool) → IsFiled b (if t then Free else Whole shift region offset)
    by_test true = tt
    by_test false = filed

pub filed_joined : (b : ℕ) (one other : Spill) → IsFiled b one → IsFiled b (joined_spill one other)
filed_joined b Free other filed = tt
filed_joined b (Whole shift region offset) Free filed = tt
filed_joined b (Whole shift region offset) (Whole s r o) filed = by_test _
  where
    by_test : (t : Bool) → IsFiled b (if t then Whole shift region offset else Free)
    by_test true = filed
    by_test false = tt

pub stands_put : (spills : List Spill) (cells : List Cell) (place : ℕ) (region : Region) (offset : ℤ) → place + 8 ≤ 512 → length spills ≡ 64 → length cells ≡ 512 →
    ((b : ℕ) → b < 64 → StandsAt (overwritten cells place (pieces_of region offset)) b (spill_at spills b)) →
    (b : ℕ) → b < 64 → StandsAt (overwritten cells place (pieces_of region offset)) b (spill_at (set spills (place / 8) (Whole (place % 8) region offset)) b)
stands_put spills cells place region offset fits long size stands b lt =
    elim (cases_eq b (place / 8)) [
      | inl same ↦
          let inside : place / 8 < length spills = omega arith in
          let here : place ≡ 8 * (place / 8) + place % 8 = omega arith in
          let room : place + length (pieces_of region offset) ≤ length cells = omega arith in
          let at_place : StandsAt (overwritten cells place (pieces_of region offset)) (place / 8) (Whole (place % 8) region offset) =
          subst (λ (q : ℕ). slice_range (overwritten cells place (pieces_of region offset)) q (q + 8) ≡ pieces_of region offset) here
          (range-inside cells (pieces_of region offset) place room) in
          subst (λ (j : ℕ). StandsAt (overwritten cells place (pieces_of region offset)) j (spill_at (set spills (place / 8) (Whole (place % 8) region offset)) j)) (sym same)
          (rw (get_or-set_same spills (place / 8) (Whole (place % 8) region offset) Free inside) at_place)
      | inr ne ↦ rw (get_or-set_other spills (place / 8) b (Whole (place % 8) region offset) Free ne) (stands b lt)
    ]

-- ---- joins

-- One more block is joined.
pub joined_more : (old other new : List Spill) (b j : ℕ) (x : Spill) → b < 64 → length new ≡ 64 → x ≡ joined_spill (spill_at new b) (spill_at other b) → spill_at new b ≡ spill_at old b →
    ((i : ℕ) → i < b → spill_at new i ≡ joined_spill (spill_at old i) (spill_at other i)) → j < b + 1 →
    spill_at (set new b x) j ≡ joined_spill (spill_at old j) (spill_at other j)
joined_more old other new b j x lt long is kept done more =
    elim (cases_eq j b) [
      | inl same ↦
          let inside : b < length new = omega arith in
          subst (λ (i : ℕ). spill_at (set new b x) i ≡ joined_spill (spill_at old i) (spill_at other i)) (sym same)
          (get_or-set_same new b x Free inside ∙ (is ∙ ap (λ s. joined_spill s (spill_at other b)) kept))
      | inr ne ↦
          let less : j < b = omega arith in
          get_or-set_other new b j x Free ne ∙ done j less
    ]

pub left_more : (old new : List Spill) (b j : ℕ) (x : Spill) → ((i : ℕ) → b ≤ i → spill_at new i ≡ spill_at old i) → b + 1 ≤ j → spill_at (set new b x) j ≡ spill_at old j
left_more old new b j x kept le =
    let ne : j ≢ b = λ e. omega arith in
    let more : b ≤ j = omega arith in
    get_or-set_other new b j x Free ne ∙ kept j more

is_byte_and : (s t : Bool) (c : Cell) → IsByteIf s c → IsByteIf (s && t) c
is_byte_and true true c h = h
is_byte_and true false c h = tt
is_byte_and false t c h = tt

pub is_byte_and_right : (s t : Bool) (c : Cell) → IsByteIf t c → IsByteIf (s && t) c
is_byte_and_right true t c h = h
is_byte_and_right false t c h = tt

-- What is described is still described if less is known.
stands_joined : (cells : List Cell) (b : ℕ) (one other : Spill) → StandsAt cells b one → StandsAt cells b (joined_spill one other)
stands_joined cells b Free other stands = tt
stands_joined cells b (Whole shift region offset) Free stands = tt
stands_joined cells b (Whole shift region offset) (Whole s r o) stands = by_test _
  where
    by_test : (t : Bool) → StandsAt cells b (if t then Whole shift region offset else Free)
    by_test true = stands
    by_test false = tt

pub described_left : (old other new : Known) (cells : List Cell) → ((k : ℕ) → byte_at new.bytes k ≡ (byte_at old.bytes k && byte_at other.bytes k)) →
    ((b : ℕ) → b < 64 → spill_at new.spills b ≡ joined_spill (spill_at old.spills b) (spill_at other.spills b)) → Describes old cells → Describes new cells
described_left old other new cells bytes spills d = record {
  bytes = λ k. rw (bytes k) (is_byte_and (byte_at old.bytes k) (byte_at other.bytes k) (cell_at cells k) (d.bytes k));
  spills = λ b lt. rw (spills b lt) (stands_joined cells b (spill_at old.spills b) (spill_at other.spills b) (d.spills b lt));
}

-- ---- writes

pub described_put : (old new : Known) (cells bytes : List Cell) (place size : ℕ) → IsSetTo true old.bytes new.bytes place (place + size) →
    ((b : ℕ) → b < 64 → spill_at new.spills b ≡ left_of place (place + size) b (spill_at old.spills b)) → place + size ≤ 512 → length cells ≡ 512 →
    AreBytes bytes → length bytes ≡ size → Describes old cells → Describes new (overwritten cells place bytes)
described_put old new cells bytes place size s spills fits long are of_size d =
    let noted : IsSetTo true old.bytes new.bytes place (place + length bytes) = subst (λ (n : ℕ). IsSetTo true old.bytes new.bytes place (place + n)) (sym of_size) s in
    let room : place + length bytes ≤ length cells = omega arith in
    let low : place ≤ place = omega arith in
    let high : place + length bytes ≤ place + size = omega arith in
    let all : place + size ≤ length cells = omega arith in
    record {
      bytes = bytes_put old.bytes new.bytes cells bytes place noted room are d.bytes;
      spills = λ b lt. rw (spills b lt) (stands_left cells bytes place (place + size) place b (spill_at old.spills b) low high all (d.spills b lt));
    }

pub described_spread : (old new : Known) (cells bytes : List Cell) (place size at : ℕ) → new.bytes ≡ old.bytes →
    ((b : ℕ) → b < 64 → spill_at new.spills b ≡ left_of place (place + size) b (spill_at old.spills b)) → place + size ≤ 512 → length cells ≡ 512 →
    AreBytes bytes → place ≤ at → at + length bytes ≤ place + size → Describes old cells → Describes new (overwritten cells at bytes)
described_spread old new cells bytes place size at same spills fits long are low high d =
    let room : at + length bytes ≤ length cells = omega arith in
    let all : place + size ≤ length cells = omega arith in
    record {
      bytes = λ k. rw same (bytes_spread old.bytes cells bytes at room are d.bytes k);
      spills = λ b lt. rw (spills b lt) (stands_left cells bytes place (place + size) at b (spill_at old.spills b) low high all (d.spills b lt));
    }

pub described_pointer : (old new : Known) (cleared : List Spill) (cells : List Cell) (place : ℕ) (region : Region) (offset : ℤ) → IsSetTo false old.bytes new.bytes place (place + 8) →
    length cleared ≡ 64 → ((b : ℕ) → b < 64 → spill_at cleared b ≡ left_of place (place + 8) b (spill_at old.spills b)) →
    new.spills ≡ set cleared (place / 8) (Whole (place % 8) region offset) → place + 8 ≤ 512 → length cells ≡ 512 → Describes old cells →
    Describes new (overwritten cells place (pieces_of region offset))
described_pointer old new cleared cells place region offset s size spills put fits long d =
    let room : place + length (pieces_of region offset) ≤ length cells = omega arith in
    let low : place ≤ place = omega arith in
    let high : place + length (pieces_of region offset) ≤ place + 8 = omega arith in
    let all : place + 8 ≤ length cells = omega arith in
    record {
      bytes = bytes_hidden old.bytes new.bytes cells (pieces_of region offset) place s room d.bytes;
      spills = λ b lt. rw put (stands_put cleared cells place region offset fits size long
          (λ j less. rw (spills j less) (stands_left cells (pieces_of region offset) place (place + 8) place j (spill_at old.spills j) low high all (d.spills j less))) b lt);
    }

-- ---- nothing known

-- If all items and the default are the same, so is each item.
same_everywhere : {A : Type 0} (n : ℕ) (a : A) (i : ℕ) → get_or (replicate n a) i a ≡ a
same_everywhere zero a i = refl
same_everywhere (suc n) a zero = refl
same_everywhere (suc n) a (suc i) = same_everywhere n a i

pub free_at : (b : ℕ) → spill_at (replicate 64 Free) b ≡ Free
free_at b = same_everywhere 64 Free b

unnoted_at : (k : ℕ) → byte_at (replicate 512 false) k ≡ false
unnoted_at k = same_everywhere 512 false k

pub nothing_filed : (b : ℕ) → b < 64 → IsFiled b (spill_at (replicate 64 Free) b)
nothing_filed b lt = rw (free_at b) tt

pub nothing_described : (cells : List Cell) → Describes (record { bytes = replicate 512 false; spills = replicate 64 Free }) cells
nothing_described cells = record {
  bytes = λ k. rw (unnoted_at k) tt;
  spills = λ b lt. rw (free_at b) tt;
}
