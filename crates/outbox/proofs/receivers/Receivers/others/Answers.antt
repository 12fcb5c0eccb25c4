-- The bits are set for exactly the other generals.
use Rattle.std.proofs.Common.{ℕ, ◌≡◌, ◌∷◌, [], not, ◌&&◌, List, ap, ◌∙◌, arith}
use Rattle.std.specs.Prelude.{nat_lt}
use Rattle.label.specs.Labels.{on}
use Rattle.outbox.proofs.Members.{members_others}
use Rattle.outbox.proofs.receivers.Receivers.others.Goals as goal

pub returns : goal.returns
returns c =
    let w : List ℕ = c.args.first ∷ c.args.second ∷ [] in
    let end : c.loop-general.general ≡ c.args.generals = let l = c.loop-general-test.false in let g = c.loop-general.auto.general-end in omega arith in
    members_others c.loop-general.mask c.args.generals w c.requires (λ n. c.loop-general.invariant n ∙ ap (λ (k : ℕ). nat_lt n k && not (on w n)) end)
