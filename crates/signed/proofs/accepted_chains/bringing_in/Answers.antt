use Rattle.std.proofs.Common.{◌≡◌, ◌∙◌, ◌+◌, ℕ, suc, ap, arith, sym}
use Rattle.signed.specs.Explained.{bringing}
use Rattle.signed.specs.Sent.{delivered, sent_in}
use Rattle.signed.proofs.Gathering.{bringing_more, bringing_none}
use Rattle.signed.proofs.accepted_chains.bringing_in.Goals as goal

pub loop-round-init : goal.loop-round-init
loop-round-init c = rw c.new-chains.ensures.items (sym (bringing_none c.args.chronicle.now.scenario.generals (delivered (sent_in c.args.chronicle.now.scenario c.args.chronicle.now.letters)) c.args.general))

pub loop-round-preserved : goal.loop-round-preserved
loop-round-preserved c =
    let S = delivered (sent_in c.args.chronicle.now.scenario c.args.chronicle.now.letters) in
    let next : c.loop-round.round + 1 ≡ suc c.loop-round.round = omega arith in
    rw (c.in_ok-add_round.ensures, c.loop-round.invariant, next) (sym (bringing_more c.args.chronicle.now.scenario.generals S c.loop-round.round c.args.general))

pub returns : goal.returns
returns c =
    let all : c.loop-round.round ≡ c.args.rounds = omega arith in
    c.loop-round.invariant ∙ ap (λ (r : ℕ). bringing c.args.chronicle.now.scenario.generals (delivered (sent_in c.args.chronicle.now.scenario c.args.chronicle.now.letters)) r c.args.general) all
