-- If a loyal general has sent in each round what SM(m) requires, he follows the protocol. After the last round nobody
-- signs.
use Rattle.std.proofs.Common.{◌≡◌, ℕ, zero, suc, ◌<◌, Bool, true, false, not, cond, List, [], map, length, refl, sym, ap, ◌∙◌, arith, inl, inr}
use Rattle.std.specs.Prelude.{filter, nat_le, ◌==◌}
use Rattle.std.proofs.lemmas.Bool.{cases_lt, lt-leb}
use Rattle.label.specs.Labels.{on}
use Rattle.round.specs.Scenario.{Scenario, is_traitor}
use Rattle.signed.specs.Chains.{Chain, signed_also}
use Rattle.signed.specs.Accepted.{Deliveries, added, loyal_chains}
use Rattle.signed.specs.Agreement.{IsLoyal}
use Rattle.signed.specs.Entries.{received}
use Rattle.signed.specs.Sent.{Sent, delivered}
use Rattle.signed.proofs.Dispatching.{received_all}
use Rattle.signed.proofs.Making.{IsFull, sent_past}

late_more : (g c : ℕ) (xs : List Chain) (a b : Bool) → b ≡ false → cond a [] (cond b (map (λ ch. signed_also ch g) xs) []) ≡ []
late_more g c xs true b e = refl
late_more g c xs false false e = refl
late_more g c xs false true e = absurd cc

-- After the last round nobody signs.
late_none : (n c m order : ℕ) (S : Deliveries) (r g : ℕ) → suc m < r → loyal_chains n c m order S r g ≡ []
unfolding loyal_chains
late_none n c m order S zero g l = absurd (omega arith)
late_none n c m order S (suc zero) g l = absurd (omega arith)
late_none n c m order S (suc (suc k)) g l = late_more g c (added n S k g) (g == c) (nat_le (suc k) m) (lt-leb (suc k) m (omega arith))

none_at_first : (n c m order : ℕ) (S : Deliveries) (g : ℕ) → loyal_chains n c m order S 0 g ≡ []
unfolding loyal_chains
none_at_first n c m order S g = refl

pub loyal_in : (s : Scenario) (sent : Sent) → IsFull s sent → length sent ≡ suc s.bound → (g : ℕ) → g < s.generals → is_traitor s g ≡ false → IsLoyal s.generals s.commander s.bound s.order (delivered sent) g
loyal_in s sent full size g gn loyal zero q qn = sym (ap (filter (λ ch. not (on ch.signers q))) (none_at_first s.generals s.commander s.bound s.order (delivered sent) g))
loyal_in s sent full size g gn loyal (suc r) q qn = elim (cases_lt r (length sent)) [
  | inl within ↦ ap (received q) (full r g within gn loyal) ∙ received_all s.generals q (loyal_chains s.generals s.commander s.bound s.order (delivered sent) (suc r) g) qn
  | inr past ↦ ap (received q) (sent_past sent (suc r) g (omega arith)) ∙ sym (ap (filter (λ ch. not (on ch.signers q))) (late_none s.generals s.commander s.bound s.order (delivered sent) (suc r) g (omega arith)))
]
