-- Lists in which a part is replaced.
use Rattle.std.proofs.Common.{◌≡◌, ℕ, ◌+◌, ◌-◌, ◌<◌, ◌≤◌, List, ◌++◌, length, take, drop, get_or, sym, ap, ◌∙◌, arith}
use Rattle.std.specs.Prelude.{slice_range}
use Rattle.std.proofs.lemmas.List.{length-append, length-take-le, length-drop, get_or_append_left, get_or-append_right, get_or-take, get_or-drop, take-append-le, take-take, drop-append-le, drop-take}
use Rattle.std.proofs.lemmas.Slice.{drop-append-drop}
use Rattle.std.proofs.Math.Seq.{drop-append_seam, take-append_seam}
use Rattle.semantics.specs.declared.value.Cell.{Cell}
use Rattle.semantics.specs.Memory.{overwritten}

module _ (cells new : List Cell) (p : ℕ) (fits : p + length new ≤ length cells) where
  front_length : length (take p cells ++ new) ≡ p + length new
  front_length =
      let le : p ≤ length cells = omega arith in
      length-append (take p cells) new ∙ ap (λ n. n + length new) (length-take-le p cells le)

  pub length-overwritten : length (overwritten cells p new) ≡ length cells
  length-overwritten =
      length-append (take p cells ++ new) (drop (p + length new) cells) ∙ omega (arith, front_length, length-drop (p + length new) cells)

  -- A cell in the part.
  pub cell-inside : (k : ℕ) (d : Cell) → p ≤ k → k < p + length new → get_or (overwritten cells p new) k d ≡ get_or new (k - p) d
  cell-inside k d le lt =
      let room : k < length (take p cells ++ new) = omega (arith, front_length) in
      let front : length (take p cells) ≡ p = length-take-le p cells (omega arith) in
      get_or_append_left (take p cells ++ new) (drop (p + length new) cells) d k room ∙ get_or-append_right (take p cells) new p k d front le

  -- A cell before it.
  pub cell-before : (k : ℕ) (d : Cell) → k < p → get_or (overwritten cells p new) k d ≡ get_or cells k d
  cell-before k d lt =
      let room : k < length (take p cells ++ new) = omega (arith, front_length) in
      let front : length (take p cells) ≡ p = length-take-le p cells (omega arith) in
      let inner : k < length (take p cells) = omega arith in
      get_or_append_left (take p cells ++ new) (drop (p + length new) cells) d k room
      ∙ (get_or_append_left (take p cells) new d k inner ∙ get_or-take p cells k d lt)

  -- A cell after it.
  pub cell-behind : (k : ℕ) (d : Cell) → p + length new ≤ k → get_or (overwritten cells p new) k d ≡ get_or cells k d
  cell-behind k d le =
      let n : p + length new + (k - (p + length new)) ≡ k = omega arith in
      get_or-append_right (take p cells ++ new) (drop (p + length new) cells) (p + length new) k d front_length le
      ∙ (get_or-drop (p + length new) cells (k - (p + length new)) d ∙ ap (λ i. get_or cells i d) n)

  -- The part itself.
  pub range-inside : slice_range (overwritten cells p new) p (p + length new) ≡ new
  range-inside =
      let front : length (take p cells) ≡ p = length-take-le p cells (omega arith) in
      let e : p + length new - p ≡ length new = omega arith in
      let le : p ≤ length (take p cells ++ new) = omega (arith, front_length) in
      ap (λ n. take n (drop p (overwritten cells p new))) e
      ∙ (ap (λ l. take (length new) l) (drop-append-le p (take p cells ++ new) (drop (p + length new) cells) le)
      ∙ (ap (λ l. take (length new) (l ++ drop (p + length new) cells)) (ap (λ n. drop n (take p cells ++ new)) (sym front) ∙ drop-append_seam (take p cells) new)
      ∙ take-append_seam new (drop (p + length new) cells)))

  -- A part before it.
  pub range-before : (a b : ℕ) → a ≤ b → b ≤ p → slice_range (overwritten cells p new) a b ≡ slice_range cells a b
  range-before a b ab bp =
      let e : a + (b - a) ≡ b = omega arith in
      let le : b ≤ length (take p cells ++ new) = omega (arith, front_length) in
      let front : length (take p cells) ≡ p = length-take-le p cells (omega arith) in
      let inner : b ≤ length (take p cells) = omega arith in
      let same : take b (overwritten cells p new) ≡ take b cells =
      take-append-le b (take p cells ++ new) (drop (p + length new) cells) le ∙ (take-append-le b (take p cells) new inner ∙ take-take b p cells bp) in
      sym (drop-take a (b - a) (overwritten cells p new))
      ∙ (ap (λ n. drop a (take n (overwritten cells p new))) e ∙ (ap (drop a) same ∙ (ap (λ n. drop a (take n cells)) (sym e) ∙ drop-take a (b - a) cells)))

  -- A part after it.
  pub range-behind : (a b : ℕ) → p + length new ≤ a → slice_range (overwritten cells p new) a b ≡ slice_range cells a b
  range-behind a b le = ap (take (b - a)) (drop-append-drop (p + length new) cells (take p cells ++ new) a le front_length)

-- An item of a part.
pub cell-of_range : (cells : List Cell) (a b k : ℕ) (d : Cell) → a + k < b → get_or (slice_range cells a b) k d ≡ get_or cells (a + k) d
cell-of_range cells a b k d lt =
    let n : k < b - a = omega arith in
    get_or-take (b - a) (drop a cells) k d n ∙ get_or-drop a cells k d
