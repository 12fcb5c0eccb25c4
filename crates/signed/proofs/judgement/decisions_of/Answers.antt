-- One more lieutenant decides.
use Rattle.std.proofs.Common.{◌≡◌, ◌≢◌, ◌<◌, ◌≤◌, length, refl, sym, ap, ◌∙◌, arith, lit<}
use Rattle.signed.specs.Accepted.{decided}
use Rattle.signed.specs.Chronicle.{signed_decisions}
use Rattle.signed.specs.Kind.{accepted_in}
use Rattle.signed.proofs.Judged.{all_decided, commander_decides, few_decided, lieutenant_decides, one_decides}
use Rattle.signed.proofs.judgement.decisions_of.Goals as goal
use Rattle.signed.proofs.judgement.decisions_of.Goals.{then-general-commander, else-general-commander}

pub push-requires : goal.push-requires
push-requires c =
    let s = c.args.scenario.now in
    let is = c.generals-general-end.ensures.whole in
    let sent = c.requires.sent in
    let lt : c.loop-general.general < s.generals = let e = c.generals-general-end.ensures.same in let t = c.loop-general-test.true in omega arith in
    let ne : c.loop-general.general ≢ s.commander = λ e. c.if-general-commander.true (e ∙ sym c.commander.ensures.same) in
    (lit< tt, few_decided s sent.0 c.loop-general.general c.loop-general.decisions.items (c.loop-general.invariant sent.0 sent.1) is.few is.commander lt ne)

pub loop-general-preserved : goal.loop-general-preserved
loop-general-preserved c closed same =
    let s = c.args.scenario.now in
    let g = c.loop-general.general in
    let lt : g < s.generals = let e = c.generals-general-end.ensures.same in let t = c.loop-general-test.true in omega arith in
    let commander = c.commander.ensures.same in
    let before = c.loop-general.invariant closed same in
    elim c.if-general-commander.branch [
      | then-general-commander t ↦
          let is : t.decided.result ≡ decided (accepted_in s closed g) =
          one_decides s closed c.args.sent.now (length c.args.sent.now) g t.decided.result t.accepted-orders.result.items same refl c.requires.few t.accepted-orders.ensures
          (t.decided.ensures ∙ ap decided t.as_slice.ensures.value) in
          rw t.decisions-is (lieutenant_decides s closed g t.decided.result c.loop-general.decisions.items t.push.new.self.items before lt (λ e. t.if-general-commander.true (e ∙ sym commander)) is t.push.ensures.items)
      | else-general-commander t ↦ rw t.decisions-is (commander_decides s closed g c.loop-general.decisions.items before lt (t.if-general-commander.false ∙ commander))
    ]

pub returns : goal.returns
unfolding signed_decisions
returns c closed same =
    let s = c.args.scenario.now in
    let past : s.generals ≤ c.loop-general.general = let e = c.generals-general-end.ensures.same in let t = c.loop-general-test.false in omega arith in
    all_decided s closed c.loop-general.general c.loop-general.decisions.items (c.loop-general.invariant closed same) past
