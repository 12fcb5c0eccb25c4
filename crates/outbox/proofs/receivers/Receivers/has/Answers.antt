-- A general below 13 may be in the set, and any other is not.
use Rattle.std.proofs.Common.{ℕ, Bool, List, ◌≡◌, ◌&&◌, false, sym, ap, ◌∙◌}
use Rattle.std.specs.Prelude.{nat_lt}
use Rattle.std.proofs.lemmas.Bool.{le-ltb}
use Rattle.label.specs.Labels.{on}
use Rattle.outbox.specs.Masks.{has_bit}
use Rattle.outbox.proofs.Members.{on_members, on_within}
use Rattle.outbox.proofs.receivers.Receivers.has.Goals as goal

pub returns-then-general-lt13-clause-among : goal.returns-then-general-lt13-clause-among
returns-then-general-lt13-clause-among c =
    c.has_bit.ensures ∙ (on_within c.self.inside.mask c.args.general c.if-general-lt13.true ∙ ap (λ (ns : List ℕ). on ns c.args.general) c.self.view_is)

pub returns-else-general-lt13-clause-among : goal.returns-else-general-lt13-clause-among
returns-else-general-lt13-clause-among c =
    let past : nat_lt c.args.general 13 ≡ false = le-ltb c.args.general 13 c.if-general-lt13.false in
    past ∙ (sym (on_members c.self.inside.mask c.args.general ∙ ap (λ (b : Bool). b && has_bit c.self.inside.mask c.args.general) past) ∙ ap (λ (ns : List ℕ). on ns c.args.general) c.self.view_is)
