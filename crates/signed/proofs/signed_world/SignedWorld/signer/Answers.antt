-- Each general's signer is at the index that is his number.
use Rattle.std.proofs.Common.{◌<◌, sym, ap, subst, ◌∙◌, arith}
use Rattle.world.specs.Kind.{World}
use Rattle.signed.specs.Signers.{Signature}
use Rattle.signed.proofs.Reading.{signers_count, signer_at}
use Rattle.signed.proofs.signed_world.SignedWorld.signer.Goals as goal

pub index-requires : goal.index-requires
index-requires c =
    let s = c.self.inside in
    let inside : c.args.general < s.scenario.generals = subst (λ (v : World). c.args.general < v.scenario.generals) (sym c.self.view_is) c.requires in
    let at = c.from.ensures in
    let ok = s.signers.ok in
    omega (arith, signers_count s.scenario.generals s.scenario.commander s.signers.items c.self.invariant.signing)

pub returns-clause-general : goal.returns-clause-general
returns-clause-general c =
    let s = c.self.inside in
    let inside : c.args.general < s.scenario.generals = subst (λ (v : World). c.args.general < v.scenario.generals) (sym c.self.view_is) c.requires in
    ap (λ (x : Signature). x.general) (signer_at s.scenario.generals s.scenario.commander c.args.general c.from.result s.signers.items c.index.result.now c.self.invariant.signing c.from.ensures inside c.index.ensures)

pub returns-clause-commander : goal.returns-clause-commander
returns-clause-commander c =
    let s = c.self.inside in
    let inside : c.args.general < s.scenario.generals = subst (λ (v : World). c.args.general < v.scenario.generals) (sym c.self.view_is) c.requires in
    ap (λ (x : Signature). x.commander) (signer_at s.scenario.generals s.scenario.commander c.args.general c.from.result s.signers.items c.index.result.now c.self.invariant.signing c.from.ensures inside c.index.ensures)
    ∙ ap (λ (v : World). v.scenario.commander) c.self.view_is
