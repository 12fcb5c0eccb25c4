-- There is room for all entries of a loyal general.
use Rattle.std.proofs.Common.{◌≡◌, ◌≢◌, ℕ, zero, suc, ◌+◌, ◌<◌, ◌≤◌, Bool, true, false, not, cond, List, [], ◌∷◌, drop, length, refl, sym, ap, ◌∙◌, arith, length-append, Option, Some, None}
use Rattle.std.specs.Prelude.{filter, slice_get, nat_le, is_some, ◌==◌}
use Rattle.std.proofs.lemmas.Bool.{and_parts, not-true, ne_eqb, eq-eqb, le-leb}
use Rattle.std.proofs.lemmas.List.{length-map}
use Rattle.label.specs.Labels.{on}
use Rattle.label.proofs.Ranks.{get_right}
use Rattle.semantics.specs.Relay.{Relay}
use Rattle.semantics.specs.Entries.{entered}
use Rattle.round.specs.Scenario.{Scenario, IsScenario}
use Rattle.signed.specs.Chains.{Chain, orders, signed_also}
use Rattle.signed.specs.Accepted.{Deliveries, came, held, counts, counted, firsts, accepted}
use Rattle.signed.specs.Entries.{Entry, Sign, Pass, passed_on}
use Rattle.signed.specs.Loyal.{bits_but, passes, loyal_entries}
use Rattle.signed.specs.Sent.{Sent, delivered, held_behind}
use Rattle.signed.specs.Sending.{added_by, entered_all, held_of, relay_behind, AreFirst, HeldChains, IsSent}
use Rattle.signed.proofs.Along.{held_is}
use Rattle.signed.proofs.Entered.{held_distinct}
use Rattle.signed.proofs.Fewness.{accepted_few}
use Rattle.signed.proofs.Holding.{held_few}
use Rattle.signed.proofs.Making.{IsMade}
use Rattle.signed.proofs.Adding.{added_by_is, accepted_more}
use Rattle.signed.proofs.Passes.{passes_count, passes_entered, taken, MayPass}
use Rattle.signed.proofs.Receipts.{chains_held, held_last, sent_rows, sent_made}
use Rattle.signed.proofs.Signing.{sendable_is}

prolonged : (ch : Chain) (g : ℕ) (b : Bool) → b ≡ false → is_some (cond b None (Some (signed_also ch g))) ≡ true
prolonged ch g true e = absurd cc
prolonged ch g false e = refl

behind_front : (n : ℕ) (sent : Sent) (r g i : ℕ) → length sent ≡ suc r → slice_get (held_behind n sent g) (length (held n (delivered sent) (suc r) g) + i) ≡ slice_get (came n (delivered sent) (suc r) g) i
unfolding held
behind_front n sent r g i e =
    let H = held n (delivered sent) (suc r) g in
    ap (λ (xs : List Chain). slice_get xs (length H + i)) (held_is n sent g ∙ ap (λ (k : ℕ). held n (delivered sent) (suc k) g) e)
    ∙ get_right H (came n (delivered sent) (suc r) g) (length H + i) i refl

-- A chain that counts may be passed on.
pub may_pass : (s : Scenario) (sent : Sent) (r g : ℕ) → IsScenario s → IsMade s sent → length sent ≡ suc r →
    MayPass (relay_behind s sent g) (suc r) g (length (held s.generals (delivered sent) (suc r) g)) (came s.generals (delivered sent) (suc r) g)
may_pass s sent r g is made e i ch bits at c =
    let H = held_behind s.generals sent g in
    let place = length (held s.generals (delivered sent) (suc r) g) + i in
    let off : on ch.signers g ≡ false = not-true (on ch.signers g) (and_parts (length ch.signers == suc r) (not (on ch.signers g)) c).1 in
    sendable_is s g (suc (length sent)) H (Pass place bits) (held_distinct s sent made is.commander g)
    ∙ (ap (λ (o : Option Chain). is_some (passed_on g o)) (behind_front s.generals sent r g i e ∙ at)
    ∙ prolonged ch g (on ch.signers g) off)

pub added_few : (s : Scenario) (sent : Sent) (r g : ℕ) → IsScenario s → IsSent s sent → g < s.generals → length sent ≡ suc r →
    length (added_by (length sent) g (accepted s.generals (delivered sent) r g) (drop (held_of g sent).earlier (held_of g sent).chains)) ≤ 8
added_few s sent r g is h inside e =
    let n = s.generals in
    let S = delivered sent in
    let of = held_last n sent r g (sent_rows s sent h) e in
    let all : added_by (length sent) g (accepted n S r g) (drop (held_of g sent).earlier (held_of g sent).chains) ≡ accepted n S (suc r) g =
    (λ i. added_by (e i) g (accepted n S r g) (of.last i)) ∙ sym (accepted_more n S r g) in
    let size = ap length all in
    omega (arith, accepted_few s sent (sent_made s sent is h) (suc r) g inside)

passes_few : (s : Scenario) (sent : Sent) (r g place : ℕ) → IsMade s sent → g < s.generals →
    length (passes s.generals (suc r) g place (accepted s.generals (delivered sent) r g) (came s.generals (delivered sent) (suc r) g)) ≤ 8
passes_few s sent r g place made inside =
    let n = s.generals in
    let S = delivered sent in
    let F = firsts (accepted n S r g) (filter (counts (suc r) g) (came n S (suc r) g)) in
    let count = passes_count n (suc r) g place (accepted n S r g) (came n S (suc r) g) in
    let size = ap length (added_by_is (suc r) g (accepted n S r g) (came n S (suc r) g)) in
    let all = ap length (accepted_more n S r g) in
    let one : length (orders F) ≡ length F = length-map F (λ ch. ch.order) in
    omega (arith, accepted_few s sent made (suc r) g inside, length-append (accepted n S r g) (orders F))

later_entries : (n c m order : ℕ) (S : Deliveries) (r g : ℕ) → g ≢ c → suc r ≤ m →
    loyal_entries n c m order S (suc (suc r)) g ≡ passes n (suc r) g (length (held n S (suc r) g)) (accepted n S r g) (came n S (suc r) g)
unfolding loyal_entries
later_entries n c m order S r g ne le =
    let last = passes n (suc r) g (length (held n S (suc r) g)) (accepted n S r g) (came n S (suc r) g) in
    (λ i. cond (ne_eqb g c ne i) [] (cond (le-leb (suc r) m le i) last []))

-- A lieutenant's entries, for chains of the round before.
pub passes_are : (s : Scenario) (sent : Sent) (r g : ℕ) → IsScenario s → IsSent s sent → g < s.generals → g ≢ s.commander → length sent ≡ suc r → length sent ≤ s.bound →
    entered_all (relay_behind s sent g) [] (passes s.generals (length sent) g (held_of g sent).earlier (accepted s.generals (delivered sent) r g) (drop (held_of g sent).earlier (held_of g sent).chains))
    ≡ loyal_entries s.generals s.commander s.bound s.order (delivered sent) (suc (length sent)) g
passes_are s sent r g is h inside ne e le =
    let n = s.generals in
    let S = delivered sent in
    let made = sent_made s sent is h in
    let of = held_last n sent r g (sent_rows s sent h) e in
    let place = length (held n S (suc r) g) in
    (λ i. entered_all (relay_behind s sent g) [] (passes n (e i) g (of.earlier i) (accepted n S r g) (of.last i)))
    ∙ (passes_entered (relay_behind s sent g) n (suc r) g place (accepted n S r g) (came n S (suc r) g) [] (may_pass s sent r g is made e) (let few = passes_few s sent r g place made inside in omega arith)
    ∙ (sym (later_entries n s.commander s.bound s.order S r g ne (omega arith))
    ∙ ap (λ (k : ℕ). loyal_entries n s.commander s.bound s.order S (suc k) g) (sym e)))

first_entries : (n c m order : ℕ) (S : Deliveries) (g : ℕ) → loyal_entries n c m order S 1 g ≡ cond (g == c) (Sign order (bits_but n (g ∷ [])) ∷ []) []
unfolding loyal_entries
first_entries n c m order S g = refl

-- The commander's entry in the first round.
pub signed_is : (s : Scenario) (sent : Sent) (g : ℕ) (entries : List Entry) → g ≡ s.commander → length sent ≡ 0 → entries ≡ entered (relay_behind s sent g) [] (Sign s.order (bits_but s.generals (g ∷ []))) →
    entries ≡ loyal_entries s.generals s.commander s.bound s.order (delivered sent) (suc (length sent)) g
signed_is s sent g entries same none is =
    let e = Sign s.order (bits_but s.generals (g ∷ [])) in
    let own : (g == s.commander) ≡ true = eq-eqb g s.commander same in
    is ∙ (taken (relay_behind s sent g) [] e own (omega arith)
    ∙ (ap (λ (b : Bool). cond b (e ∷ []) []) (sym own)
    ∙ (sym (first_entries s.generals s.commander s.bound s.order (delivered sent) g)
    ∙ ap (λ (k : ℕ). loyal_entries s.generals s.commander s.bound s.order (delivered sent) (suc k) g) (sym none))))

-- A lieutenant makes no entry in the first round.
pub none_first : (s : Scenario) (sent : Sent) (g : ℕ) → g ≢ s.commander → length sent ≡ 0 → [] ≡ loyal_entries s.generals s.commander s.bound s.order (delivered sent) (suc (length sent)) g
none_first s sent g ne none =
    ap (λ (b : Bool). cond b (Sign s.order (bits_but s.generals (g ∷ [])) ∷ []) []) (sym (ne_eqb g s.commander ne))
    ∙ (sym (first_entries s.generals s.commander s.bound s.order (delivered sent) g)
    ∙ ap (λ (k : ℕ). loyal_entries s.generals s.commander s.bound s.order (delivered sent) (suc k) g) (sym none))

later_none : (n c m order : ℕ) (S : Deliveries) (r g : ℕ) → g ≡ c → loyal_entries n c m order S (suc (suc r)) g ≡ []
unfolding loyal_entries
later_none n c m order S r g same =
    let last = passes n (suc r) g (length (held n S (suc r) g)) (accepted n S r g) (came n S (suc r) g) in
    ap (λ (b : Bool). cond b [] (cond (nat_le (suc r) m) last [])) (eq-eqb g c same)

-- The commander makes no entry in a later round.
pub none_later : (s : Scenario) (sent : Sent) (g : ℕ) → g ≡ s.commander → length sent ≢ 0 → [] ≡ loyal_entries s.generals s.commander s.bound s.order (delivered sent) (suc (length sent)) g
none_later s sent g same some = by (length sent) refl
  where
    by : (k : ℕ) → length sent ≡ k → [] ≡ loyal_entries s.generals s.commander s.bound s.order (delivered sent) (suc k) g
    by zero e = absurd (some e)
    by (suc r) e = sym (later_none s.generals s.commander s.bound s.order (delivered sent) r g same)

pub held_small : (s : Scenario) (sent : Sent) (g : ℕ) → IsScenario s → IsSent s sent → g < s.generals → length sent ≤ s.bound → length (held_of g sent).chains ≤ 384
held_small s sent g is h inside le =
    let e = ap length (chains_held s.generals sent g (sent_rows s sent h)) in
    omega (arith, held_few s sent (sent_made s sent is h) is.few is.rounds le g inside)

-- A lieutenant has passed on the chains that bring him new orders.
pub passed_is : (s : Scenario) (sent : Sent) (g n rounds r : ℕ) (held_chains : HeldChains) (relay : Relay) (before entries : List Entry) (kept : List ℕ) → IsScenario s → IsSent s sent → g < s.generals → g ≢ s.commander → length sent ≤ s.bound →
    n ≡ s.generals → rounds ≡ length sent → rounds ≡ suc r → held_chains ≡ held_of g sent → relay ≡ relay_behind s sent g → before ≡ [] → AreFirst kept (accepted s.generals (delivered sent) r g) →
    ((seen : List ℕ) → AreFirst kept seen → length (added_by rounds g seen (drop held_chains.earlier held_chains.chains)) ≤ 8 → entries ≡ entered_all relay before (passes n rounds g held_chains.earlier seen (drop held_chains.earlier held_chains.chains))) →
    entries ≡ loyal_entries s.generals s.commander s.bound s.order (delivered sent) (suc (length sent)) g
passed_is s sent g n rounds r held_chains relay before entries kept is h inside ne le size counted e there relays none first passed =
    let seen = accepted s.generals (delivered sent) r g in
    let round : length sent ≡ suc r = sym counted ∙ e in
    let same : added_by rounds g seen (drop held_chains.earlier held_chains.chains) ≡ added_by (length sent) g seen (drop (held_of g sent).earlier (held_of g sent).chains) =
    (λ i. added_by (counted i) g seen (drop (there i).earlier (there i).chains)) in
    let few = added_few s sent r g is h inside round in
    let sizes = ap length same in
    passed seen first (omega arith)
    ∙ ((λ i. entered_all (relays i) (none i) (passes (size i) (counted i) g (there i).earlier seen (drop (there i).earlier (there i).chains)))
    ∙ passes_are s sent r g is h inside ne round le)
