-- The first story that breaks a rule, found by checking lieutenant after lieutenant.
use Rattle.std.proofs.Common.{ℕ, ◌+◌, ◌*◌, ◌<◌, ◌≤◌, ◌≡◌, ◌≢◌, ◌⊎◌, Bool, true, false, cond, [], ◌∷◌, sym, ap, subst, ◌∙◌, arith, inl, inr, Option, None, Some, Ok, Err, refl}
use Rattle.std.specs.Prelude.{nat_lt}
use Rattle.std.proofs.lemmas.Bool.{cases_Bool, cases_lt, cond-true, ltb-false}
use Rattle.combine.specs.declared.campaign_rule.Rule.{Rule}
use Rattle.combine.specs.Names.{default_rule}
use Rattle.combine.specs.Rule.{combined_by}
use Rattle.label.specs.Oral.{om, IsLoyalLieutenant, Agree}
use Rattle.book.specs.Grammar.{is_within}
use Rattle.book.specs.declared.fault.TableFault.TheVariants.{Range}
use Rattle.book.specs.declared.fault.TableError.TheVariants.{At}
use Rattle.book.proofs.Reread.{limits}
use Rattle.bounds.specs.Refutation.{AgreesIn, IsFirstBroken, refusal_of, refusal_of_table}
use Rattle.bounds.specs.Tightness.{IsTooFew}
use Rattle.bounds.specs.declared.refusal.RefutationError.TheVariants.{Enough}
use Rattle.bounds.specs.declared.story.Story.{Story}
use Rattle.bounds.specs.declared.story.Story.TheVariants.{First, Second, Third}
use Rattle.bounds.proofs.TightnessLaws.{proved_om_is_decision_rule, proved_stories_break}

-- States that the loyal lieutenants below g agree, and obey a loyal commander. `expected` is the order on which they
-- agree.
pub record AreAlikeSoFar (n c order : ℕ) (traitor : ℕ → Bool) (decision : ℕ → ℕ) (expected : Option ℕ) (g : ℕ) : Type 0 where
  pub each : (p : ℕ) → p < g → IsLoyalLieutenant n c traitor p → expected ≡ Some (decision p)
  pub obeyed : traitor c ≡ false → expected ≡ Some order
  pub source : (v : ℕ) → expected ≡ Some v → ((traitor c ≡ false) × (v ≡ order)) ⊎ ((p : ℕ) × IsLoyalLieutenant n c traitor p × (v ≡ decision p))

some_same : (u v : ℕ) → Some u ≡ Some v → u ≡ v
some_same u v e = cc

-- Proves the claim before the first lieutenant.
pub none_below : (n c order : ℕ) (traitor : ℕ → Bool) (decision : ℕ → ℕ) (expected : Option ℕ) → (traitor c ≡ true → expected ≡ None) → (traitor c ≡ false → expected ≡ Some order) → AreAlikeSoFar n c order traitor decision expected 0
none_below n c order traitor decision expected lies loyal = record {
  each = λ p l is. absurd (omega arith);
  obeyed = loyal;
  source = λ v e. elim (cases_Bool (traitor c)) [
    | inl it ↦ absurd (differ v (sym e ∙ lies it))
    | inr true' ↦ inl (true', some_same v order (sym e ∙ loyal true'))
  ];
}
  where
    differ : (v : ℕ) → Some v ≡ None → ⊥
    differ v e = cc

-- Proves the claim after one more loyal lieutenant.
pub one_more : (n c order : ℕ) (traitor : ℕ → Bool) (decision : ℕ → ℕ) (expected : Option ℕ) (g v : ℕ) → AreAlikeSoFar n c order traitor decision expected g → IsLoyalLieutenant n c traitor g → v ≡ decision g
    → ((u : ℕ) → expected ≡ Some u → u ≡ v) → AreAlikeSoFar n c order traitor decision (Some v) (g + 1)
one_more n c order traitor decision expected g v so is e same = record {
  each = λ p l own. elim (cases_lt p g) [
    | inl before ↦ ap Some (sym (same (decision p) (so.each p before own)))
    | inr last ↦ (let here : p ≡ g = omega arith in ap Some (e ∙ ap decision (sym here)))
  ];
  obeyed = λ loyal. ap Some (sym (same order (so.obeyed loyal)));
  source = λ u eq. inr (g, is, some_same u v (sym eq) ∙ e);
}

-- Proves the claim after one more general who is not a loyal lieutenant.
pub one_skipped : (n c order : ℕ) (traitor : ℕ → Bool) (decision : ℕ → ℕ) (expected : Option ℕ) (g : ℕ) → AreAlikeSoFar n c order traitor decision expected g → (IsLoyalLieutenant n c traitor g → ⊥) → AreAlikeSoFar n c order traitor decision expected (g + 1)
one_skipped n c order traitor decision expected g so other = record {
  each = λ p l own. elim (cases_lt p g) [
    | inl before ↦ so.each p before own
    | inr last ↦ (let here : p ≡ g = omega arith in absurd (other (subst (IsLoyalLieutenant n c traitor) here own)))
  ];
  obeyed = so.obeyed;
  source = so.source;
}

-- Proves that all loyal lieutenants agree after the last general.
pub all_agree : (n c order : ℕ) (traitor : ℕ → Bool) (decision : ℕ → ℕ) (expected : Option ℕ) (g : ℕ) → AreAlikeSoFar n c order traitor decision expected g → n ≤ g → Agree n c order traitor decision
all_agree n c order traitor decision expected g so all = record {
  alike = λ p q a b. let lp = a.general in let lq = b.general in some_same (decision p) (decision q) (sym (so.each p (omega arith) a) ∙ so.each q (omega arith) b);
  obeyed = λ loyal p a. let lp = a.general in some_same (decision p) order (sym (so.each p (omega arith) a) ∙ so.obeyed loyal);
}

-- Proves that the rule is broken if a loyal lieutenant decides on another order.
pub one_differs : (n c order : ℕ) (traitor : ℕ → Bool) (decision : ℕ → ℕ) (expected : Option ℕ) (g v u : ℕ) → AreAlikeSoFar n c order traitor decision expected g → IsLoyalLieutenant n c traitor g → v ≡ decision g → expected ≡ Some u → u ≢ v → ¬ Agree n c order traitor decision
one_differs n c order traitor decision expected g v u so is e it ne agree = elim (so.source u it) [
  | inl own ↦ ne (own.1 ∙ (sym (agree.obeyed own.0 g is) ∙ sym e))
  | inr other ↦ ne (other.2 ∙ (agree.alike other.0 g other.1 is ∙ sym e))
]

-- Proves that numbers without a refusal are within the limits of a message table, with at most 3m generals.
given_parts : (n m c : ℕ) → refusal_of n m c ≡ None → (is_within n m c ≡ true) × (nat_lt (3 * m) n ≡ false)
given_parts n m c e = parts (is_within n m c) (nat_lt (3 * m) n) refl refl e
  where
    refused : Some Enough ≡ None → ⊥
    refused e = cc

    parts : (inside more : Bool) → is_within n m c ≡ inside → nat_lt (3 * m) n ≡ more
        → refusal_of_table (cond inside (Ok (record { generals = n; bound = m; commander = c; rule = default_rule; messages = [] })) (Err (At Range 1))) ≡ None → (is_within n m c ≡ true) × (nat_lt (3 * m) n ≡ false)
    parts true true ei em e = absurd (refused (sym (cond-true (nat_lt (3 * m) n) (Some Enough) None em) ∙ e))
    parts true false ei em e = (ei, em)
    parts false more ei em e = cc

-- Proves that these numbers have too few generals.
pub few_from : (n m c : ℕ) → refusal_of n m c ≡ None → IsTooFew n c m
few_from n m c e =
    let parts = given_parts n m c e in
    let limit = limits n m c parts.0 in
    let relays = limit.relays in
    let few : n ≤ 3 * m = ltb-false (3 * m) n parts.1 in
    record { commander = limit.present; three = omega arith; few = few }

-- Proves that these numbers are within the limits of a message table.
pub within_from : (n m c : ℕ) → refusal_of n m c ≡ None → is_within n m c ≡ true
within_from n m c e = (given_parts n m c e).0

-- Proves that the third story breaks the rule if the first two do not.
pub third_breaks : (rule : Rule) (n c m : ℕ) → IsTooFew n c m → AgreesIn rule n c m First → AgreesIn rule n c m Second → IsFirstBroken rule n c m Third
third_breaks rule n c m few first second = record {
  broken = λ third.
      let found = proved_stories_break n c m (λ p M. om (combined_by rule) n M m (c ∷ []) p) few (proved_om_is_decision_rule (combined_by rule) n c m few.commander) in
      found.1 (each first second third found.0);
  first = (first, (second, tt));
}
  where
    each : AgreesIn rule n c m First → AgreesIn rule n c m Second → AgreesIn rule n c m Third → (s : Story) → AgreesIn rule n c m s
    each a b d First = a
    each a b d Second = b
    each a b d Third = d
