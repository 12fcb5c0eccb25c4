-- The general is the commander or not, and the round is the first or a later one.
use Rattle.std.proofs.Common.{ℕ, ◌-◌, [], ◌∷◌, length, refl, sym, ap, ◌∙◌, arith}
use Rattle.semantics.specs.Entries.{entered}
use Rattle.signed.specs.Entries.{Sign}
use Rattle.signed.specs.Loyal.{bits_but}
use Rattle.signed.specs.Sending.{relay_behind, HeldChains}
use Rattle.signed.proofs.Receipts.{sent_rows}
use Rattle.signed.proofs.Duties.{held_small, passed_is, signed_is, none_first, none_later}
use Rattle.signed.proofs.entries.enter.Goals as goal

pub pass_on-requires-clause-few : goal.pass_on-requires-clause-few
pass_on-requires-clause-few c =
    let a = c.args in
    let e = ap (λ (h : HeldChains). length h.chains) c.requires.held in
    omega (arith, held_small a.scenario.now a.sent.now a.general c.commander.ensures.whole c.requires.sent c.requires.inside c.requires.left)

pub returns-then-rounds-gt0-clause-entries : goal.returns-then-rounds-gt0-clause-entries
returns-then-rounds-gt0-clause-entries c =
    let a = c.args in
    let s = a.scenario.now in
    let n = length a.sent.now in
    passed_is s a.sent.now a.general c.generals.result n (n - 1) a.held.now a.outbox.now.relay a.outbox.now.entries c.pass_on.new.outbox.entries c.accepted-before.result.items
    c.commander.ensures.whole c.requires.sent c.requires.inside (λ e. c.if-general-commander.true (e ∙ sym c.commander.ensures.same)) c.requires.left
    c.generals.ensures.same refl (let more = c.if-rounds-gt0.true in omega arith) c.requires.held c.requires.relay c.requires.unentered
    (c.accepted-before.ensures s.generals (sent_rows s a.sent.now c.requires.sent)) c.pass_on.ensures.entries

pub returns-else-rounds-gt0-clause-entries : goal.returns-else-rounds-gt0-clause-entries
returns-else-rounds-gt0-clause-entries c =
    let a = c.args in
    c.requires.unentered
    ∙ none_first a.scenario.now a.sent.now a.general (λ e. c.if-general-commander.true (e ∙ sym c.commander.ensures.same)) (let none = c.if-rounds-gt0.false in omega arith)

pub returns-then-rounds-eq0-clause-entries : goal.returns-then-rounds-eq0-clause-entries
returns-then-rounds-eq0-clause-entries c =
    let a = c.args in
    let s = a.scenario.now in
    signed_is s a.sent.now a.general c.sign-entered.new.self.entries (c.if-general-commander.false ∙ c.commander.ensures.same) c.if-rounds-eq0.true
    (c.sign-entered.ensures.entries
    ∙ ((λ i. entered (c.requires.relay i) (c.requires.unentered i) (Sign (c.order.ensures i) (c.others-all.ensures i)))
    ∙ ap (λ (k : ℕ). entered (relay_behind s a.sent.now a.general) [] (Sign s.order (bits_but k (a.general ∷ [])))) c.generals-then-rounds-eq0.ensures.same))

pub returns-else-rounds-eq0-clause-entries : goal.returns-else-rounds-eq0-clause-entries
returns-else-rounds-eq0-clause-entries c =
    let a = c.args in
    c.requires.unentered ∙ none_later a.scenario.now a.sent.now a.general (c.if-general-commander.false ∙ c.commander.ensures.same) c.if-rounds-eq0.false
