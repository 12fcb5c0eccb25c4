-- The lines about a lieutenant and about the bound.
use Rattle.std.proofs.Common.{ℕ, ◌≡◌, ◌++◌, ◌∙◌, ap, append_assoc, Bool, List, refl}
use Rattle.std.specs.Prelude.{codes, count_by}
use Rattle.std.specs.Fmt.{decimal}
use Rattle.std.specs.List.{flat_map}
use Rattle.label.specs.Labels.{generals}
use Rattle.book.specs.Explained.{few_words, head_line, yes_no}
use Rattle.round.specs.Scenario.{Scenario, is_traitor}
use Rattle.world.specs.Chronicle.{Chronicle}
use Rattle.signed.specs.Chains.{Chain, orders}
use Rattle.signed.specs.Explained.{acceptance_lines, accepted_line, chains_of, choice_line, traitors_line}

-- The line about the bound is made from its parts.
pub traitors_whole : (s : Scenario) (holds : Bool) (old new so few : List ℕ) (t m : ℕ)
    → so ≡ yes_no holds → few ≡ few_words holds → t ≡ count_by (is_traitor s) (generals s.generals) → m ≡ s.bound
    → new ≡ old ++ (codes "bound " ++ so ++ codes ": " ++ decimal t ++ codes " traitors, " ++ few ++ decimal m ++ codes "\n")
    → new ≡ old ++ traitors_line s holds
traitors_whole s holds old new so few t m es ef et em e = e ∙ rw (es, ef, et, em) refl

-- The lines about a lieutenant are made from their parts.
pub acceptance_whole : (c : Chronicle) (p : ℕ) (old first second new : List ℕ) (xs ys : List Chain) (traitor : Bool)
    → first ≡ old ++ head_line p → second ≡ first ++ flat_map accepted_line xs → xs ≡ chains_of c p → ys ≡ chains_of c p → traitor ≡ is_traitor c.scenario p
    → new ≡ second ++ choice_line p traitor (orders ys)
    → new ≡ old ++ acceptance_lines c p
unfolding acceptance_lines
acceptance_whole c p old first second new xs ys traitor e1 e2 ex ey et e =
    let accepts : List ℕ = flat_map accepted_line (chains_of c p) in
    let chooses : List ℕ = choice_line p (is_traitor c.scenario p) (orders (chains_of c p)) in
    let same : second ≡ (old ++ head_line p) ++ accepts = e2 ∙ (ap (λ (t : List ℕ). t ++ flat_map accepted_line xs) e1 ∙ ap (λ (zs : List Chain). (old ++ head_line p) ++ flat_map accepted_line zs) ex) in
    let chosen : choice_line p traitor (orders ys) ≡ chooses = ap (λ (b : Bool). choice_line p b (orders ys)) et ∙ ap (λ (zs : List Chain). choice_line p (is_traitor c.scenario p) (orders zs)) ey in
    e ∙ (ap (λ (t : List ℕ). t ++ choice_line p traitor (orders ys)) same ∙ (ap (λ (t : List ℕ). ((old ++ head_line p) ++ accepts) ++ t) chosen
    ∙ (ap (λ (t : List ℕ). t ++ chooses) (append_assoc old (head_line p) accepts) ∙ append_assoc old (head_line p ++ accepts) chooses)))
