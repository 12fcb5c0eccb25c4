-- How many generals with a lower number than the lieutenant are not on a child of a label.
use Rattle.std.proofs.Common.{ℕ, ◌+◌, ◌-◌, ◌<◌, ◌≤◌, ◌≡◌, ◌≢◌, false, List, [], ◌∷◌, ◌++◌, length, ap, ◌∙◌, arith, inl, inr, Some}
use Rattle.std.specs.Prelude.{nat_lt, slice_get, ◌==◌}
use Rattle.std.proofs.lemmas.Bool.{cases_lt, lt-ltb, le-ltb, cond-true, cond-false, or_parts, eqb-false}
use Rattle.std.proofs.lemmas.Option.{slice_get_within}
use Rattle.label.specs.Labels.{on, others}
use Rattle.label.proofs.Counting.{others-length}
use Rattle.label.proofs.Below.{absent, turned}
use Rattle.label.proofs.Ranks.{others-at, others-place}
use Rattle.resolve.specs.Decided.{child_lower_off}

-- Proves that the index of a general among the children says whether his number is lower than the lieutenant's.
pub child-below : (n p : ℕ) (w : List ℕ) (i j lower_off : ℕ) → p < n → on w p ≡ false → slice_get (others n (p ∷ w)) i ≡ Some j → on (p ∷ w) j ≡ false → lower_off ≡ length (others p w) → child_lower_off lower_off i ≡ length (others p (w ++ j ∷ []))
child-below n p w i j lower_off l o at out e =
    let off : on w j ≡ false = (or_parts (p == j) (on w j) out).1 in
    let apart : p ≢ j = eqb-false p j (or_parts (p == j) (on w j) out).0 in
    let here : i ≡ length (others j (p ∷ w)) = others-place n (p ∷ w) i j at in
    let here' : length (others j (p ∷ w)) ≡ length (others j (w ++ p ∷ [])) = ap length (turned j w p) in
    elim (cases_lt j p) [
      | inl less ↦
          let same : length (others j (w ++ p ∷ [])) ≡ length (others j w) = absent j w p (omega arith) in
          let within : length (others j w) < length (others p w) = slice_get_within (others p w) (length (others j w)) j (others-at p w j less off) in
          let fewer : length (others p w) ≡ 1 + length (others p (w ++ j ∷ [])) = others-length p w j less off in
          let small : i < lower_off = omega arith in
          cond-true (nat_lt i lower_off) (lower_off - 1) lower_off (lt-ltb i lower_off small) ∙ (omega arith)
      | inr more ↦
          let same : length (others p (w ++ j ∷ [])) ≡ length (others p w) = absent p w j more in
          let above : p < j = omega arith in
          let within : length (others p w) < length (others j w) = slice_get_within (others j w) (length (others p w)) p (others-at j w p above o) in
          let fewer : length (others j w) ≡ 1 + length (others j (w ++ p ∷ [])) = others-length j w p above o in
          let big : lower_off ≤ i = omega arith in
          cond-false (nat_lt i lower_off) (lower_off - 1) lower_off (le-ltb i lower_off big) ∙ (omega arith)
    ]
