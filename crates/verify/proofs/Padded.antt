-- The states that are kept for the first units, and nothing for the units after them.
use Rattle.std.proofs.Common.{◌≡◌, ◌∙◌, ℕ, zero, suc, ◌+◌, ◌-◌, ◌<◌, ◌≤◌, List, [], ◌∷◌, ◌++◌, length, replicate, Option, None, refl, sym, ap, append_assoc, length-append, arith}
use Rattle.std.specs.Prelude.{slice_set, Box}
use Rattle.std.specs.declared.alloc.Global.{Global}
use Rattle.std.proofs.lemmas.List.{length-map, length-set, length-replicate, map-set, set-append_left, replicate-append-replicate}
use Rattle.verify.specs.declared.state.AbsState.{AbsState}
use Rattle.verify.specs.Judgement.{KnownSoFar}
use Rattle.verify.specs.Kept.{unboxed, all_unboxed, padded}

abbrev Places : Type 0
Places = List (Option (Box AbsState Global))

set_none : (n unit : ℕ) → slice_set {A = Option AbsState} (replicate n None) unit None ≡ replicate n None
set_none zero unit = refl
set_none (suc n) zero = refl
set_none (suc n) (suc unit) = ap (λ (l : KnownSoFar). None ∷ l) (set_none n unit)

set_behind : (known : KnownSoFar) (n unit : ℕ) → length known ≤ unit → slice_set (known ++ replicate n None) unit None ≡ known ++ replicate n None
set_behind [] n unit le = set_none n unit
set_behind (k ∷ known) n zero le = absurd (omega arith)
set_behind (k ∷ known) n (suc unit) le = ap (λ (l : KnownSoFar). k ∷ l) (set_behind known n unit (omega arith))

set_end : (known : KnownSoFar) (m : ℕ) (x : Option AbsState) → slice_set (known ++ replicate (suc m) None) (length known) x ≡ (known ++ x ∷ []) ++ replicate m None
set_end [] m x = refl
set_end (k ∷ known) m x = ap (λ (l : KnownSoFar). k ∷ l) (set_end known m x)

none_unboxed : (n : ℕ) → all_unboxed (replicate n None) ≡ replicate n None
none_unboxed zero = refl
none_unboxed (suc n) = ap (λ (l : KnownSoFar). None ∷ l) (none_unboxed n)

more_unboxed : (states more : Places) → all_unboxed (states ++ more) ≡ all_unboxed states ++ all_unboxed more
more_unboxed [] more = refl
more_unboxed (s ∷ states) more = ap (λ (l : KnownSoFar). unboxed s ∷ l) (more_unboxed states more)

module _ (states : Places) (items : KnownSoFar) (units : ℕ) (is : padded units (all_unboxed states) ≡ items) where
  -- There is an entry for each unit.
  pub all_units : length states ≤ units → length items ≡ units
  all_units le =
      sym (ap length is) ∙ (length-append (all_unboxed states) (replicate (units - length (all_unboxed states)) None)
      ∙ omega (arith, length-map states unboxed, length-replicate {A = Option AbsState} (units - length (all_unboxed states)) None))

  -- A state is stored at a unit.
  pub put_at : (unit : ℕ) (x : Option (Box AbsState Global)) → unit < length states → padded units (all_unboxed (slice_set states unit x)) ≡ slice_set items unit (unboxed x)
  put_at unit x lt =
      let inside : unit < length (all_unboxed states) = omega (arith, length-map states unboxed) in
      let long : length (slice_set (all_unboxed states) unit (unboxed x)) ≡ length (all_unboxed states) = length-set (all_unboxed states) unit (unboxed x) in
      ap (padded units) (map-set unboxed states unit x)
      ∙ (ap (λ (n : ℕ). slice_set (all_unboxed states) unit (unboxed x) ++ replicate (units - n) None) long
      ∙ (sym (set-append_left (all_unboxed states) (replicate (units - length (all_unboxed states)) None) unit (unboxed x) inside)
      ∙ ap (λ (l : KnownSoFar). slice_set l unit (unboxed x)) is))

  -- Nothing is kept for the units after the entries.
  pub none_taken : (unit : ℕ) → length states ≤ unit → items ≡ slice_set items unit None
  none_taken unit le =
      let behind : length (all_unboxed states) ≤ unit = omega (arith, length-map states unboxed) in
      sym (ap (λ (l : KnownSoFar). slice_set l unit None) (sym is) ∙ (set_behind (all_unboxed states) (units - length (all_unboxed states)) unit behind ∙ is))

  -- One more entry, directly after the others.
  pub pushed : (unit : ℕ) (x : Option (Box AbsState Global)) → unit < units → length states ≡ unit → padded units (all_unboxed (states ++ x ∷ [])) ≡ slice_set items unit (unboxed x)
  pushed unit x lt here =
      let known : KnownSoFar = all_unboxed states in
      let long : length known ≡ unit = length-map states unboxed ∙ here in
      let left : ℕ = units - length (known ++ unboxed x ∷ []) in
      let one : units - length known ≡ suc left = omega (arith, length-append known (unboxed x ∷ [])) in
      let before : known ++ replicate (suc left) None ≡ items = ap (λ (n : ℕ). known ++ replicate n None) (sym one) ∙ is in
      ap (padded units) (more_unboxed states (x ∷ []))
      ∙ (sym (set_end known left (unboxed x))
      ∙ (ap (λ (n : ℕ). slice_set (known ++ replicate (suc left) None) n (unboxed x)) long
      ∙ ap (λ (l : KnownSoFar). slice_set l unit (unboxed x)) before))

  -- More empty entries change nothing.
  pub further : (more : ℕ) → length states + more ≤ units → padded units (all_unboxed (states ++ replicate more None)) ≡ items
  further more le =
      let known : KnownSoFar = all_unboxed states in
      let long : length known ≡ length states = length-map states unboxed in
      let now : all_unboxed (states ++ replicate more None) ≡ known ++ replicate more None = more_unboxed states (replicate more None) ∙ ap (λ (l : KnownSoFar). known ++ l) (none_unboxed more) in
      let left : more + (units - length (known ++ replicate more None)) ≡ units - length known = omega (arith, length-append known (replicate more None), length-replicate {A = Option AbsState} more None) in
      ap (padded units) now
      ∙ (append_assoc known (replicate more None) (replicate (units - length (known ++ replicate more None)) None)
      ∙ (ap (λ (l : KnownSoFar). known ++ l) (replicate-append-replicate more (units - length (known ++ replicate more None)) None ∙ ap (λ (n : ℕ). replicate n None) left) ∙ is))
