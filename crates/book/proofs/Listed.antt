-- The agreement theorem, position by position in a list of decisions.
use Rattle.std.proofs.Common.{ℕ, zero, suc, ◌+◌, ◌<◌, ◌≤◌, ◌≡◌, ◌≢◌, Bool, false, List, [], ◌∷◌, map, length, get_or, refl, sym, ap, ◌∙◌, arith, inl, inr}
use Rattle.std.specs.Prelude.{◌==◌, slice_index}
use Rattle.std.proofs.lemmas.Bool.{or_parts, eqb-false, cases_lt}
use Rattle.std.proofs.lemmas.List.{length-map}
use Rattle.combine.specs.Rule.{IsMajorityRule, combined_by}
use Rattle.combine.specs.Laws.{chosen_is_rule}
use Rattle.label.specs.Labels.{others}
use Rattle.label.specs.Oral.{om, Messages, Agree, IsLoyalLieutenant}
use Rattle.label.proofs.Counting.{others-on}
use Rattle.label.proofs.Ranks.{others-count}
use Rattle.book.specs.Theorem.{AgreementHolds}
use Rattle.book.specs.Table.{MessageTable, told}
use Rattle.label.specs.Lieutenants.{lieutenants, IsLoyalAt}
use Rattle.book.specs.Decisions.{decision_of, decisions_of, AgreesIfBound}
use Rattle.book.proofs.Steps.{entries_few}
use Rattle.label.proofs.Bounds.{on-get_or}

pub read_map : (d : ℕ → ℕ) (xs : List ℕ) (i : ℕ) → i < length xs → get_or (map d xs) i 0 ≡ d (get_or xs i 0)
read_map d [] i l = absurd (omega arith)
read_map d (x ∷ xs) zero l = refl
read_map d (x ∷ xs) (suc i) l = read_map d xs i (omega arith)

pub loyal_at : (n c : ℕ) (traitor : ℕ → Bool) (i : ℕ) → IsLoyalAt n c traitor i → IsLoyalLieutenant n c traitor (slice_index (lieutenants n c) i)
loyal_at n c traitor i a =
    let there = others-on n (c ∷ []) (get_or (lieutenants n c) i 0) (on-get_or (lieutenants n c) i a.within) in
    record { general = there.0; lieutenant = λ e. eqb-false c (get_or (lieutenants n c) i 0) (or_parts (c == get_or (lieutenants n c) i 0) false there.1).0 (sym e); loyal = a.loyal }

-- The decisions of the recursion, in the order of the lieutenants, agree.
pub listed : (f : List ℕ → ℕ) → IsMajorityRule f → AgreementHolds → (n c m : ℕ) (M : Messages) → c < n → AgreesIfBound n c m M (map (om f n M m (c ∷ [])) (lieutenants n c))
listed f law holds n c m M inside order traitor bound faithful =
    let all : Agree n c order traitor (om f n M m (c ∷ [])) = holds f law n c m order traitor M inside bound faithful in
    record {
      alike = λ i j a b. read_map (om f n M m (c ∷ [])) (lieutenants n c) i a.within ∙ (all.alike _ _ (loyal_at n c traitor i a) (loyal_at n c traitor j b) ∙ sym (read_map (om f n M m (c ∷ [])) (lieutenants n c) j b.within));
      obeyed = λ good i a. read_map (om f n M m (c ∷ [])) (lieutenants n c) i a.within ∙ all.obeyed good _ (loyal_at n c traitor i a);
    }

-- So do those of a table.
pub table_agrees : AgreementHolds → (t : MessageTable) → t.commander < t.generals → AgreesIfBound t.generals t.commander t.bound (told t.messages) (decisions_of t)
unfolding decisions_of decision_of
table_agrees holds t inside = listed (combined_by t.rule) (chosen_is_rule t.rule) holds t.generals t.commander t.bound (told t.messages) inside

-- A list that has reached the last general is complete.
pub listed_all : (t : MessageTable) (decisions : List ℕ) (k : ℕ) → t.generals ≤ k → k ≤ t.generals → decisions ≡ map (decision_of t) (others k (t.commander ∷ [])) → decisions ≡ decisions_of t
unfolding decisions_of
listed_all t decisions k a b e =
    let same : k ≡ t.generals = omega arith in
    e ∙ ap (λ (i : ℕ). map (decision_of t) (others i (t.commander ∷ []))) same

-- Fewer than twelve lieutenants come before one.
pub few_before : (F : ℕ → ℕ) (n c g : ℕ) → n ≤ 13 → c < n → g < n → g ≢ c → length (map F (others g (c ∷ []))) < 12
few_before F n c g small inside within ne =
    elim (cases_lt c g) [
      | inl l ↦
          let count : length (others g (c ∷ [])) + 1 ≡ g = others-count g (c ∷ []) refl (l, tt) in
          let same : length (map F (others g (c ∷ []))) ≡ length (others g (c ∷ [])) = length-map (others g (c ∷ [])) F in
          omega arith
      | inr l ↦ let few : length (map F (others g (c ∷ []))) ≤ g = entries_few F (c ∷ []) g in omega arith
    ]
