use Rattle.std.proofs.Common.{refl, sym, ◌∙◌}
use Rattle.trace.proofs.AuditLemmas.{fault_is_told}
use Rattle.trace.proofs.SignedAudits.{found_sound, refused_different, refused_version}
use Rattle.trace.proofs.signed_audit.sound_signed_chronicle.Goals as goal

pub returns-then-not-is_third_version-clause-unsound : goal.returns-then-not-is_third_version-clause-unsound
returns-then-not-is_third_version-clause-unsound c =
    λ _. refused_version c.args.scenario.now c.args.text.now c.args.text.now refl (sym c.is_third_version.ensures ∙ c.if-not-is_third_version.true)

pub returns-then-not-is_third_version-clause-unnamed : goal.returns-then-not-is_third_version-clause-unnamed
returns-then-not-is_third_version-clause-unnamed c _ = fault_is_told c.args.text.now _ c.refusal.result c.refusal.ensures

pub returns-in-None-clause-sound : goal.returns-in-None-clause-sound
returns-in-None-clause-sound c =
    found_sound c.args.scenario.now c.args.text.now c.args.text.now c.in_ok-chronicle.chronicle refl c.in_ok-chronicle.ensures c.in-None.ensures.same

pub returns-in-Some-clause-unsound : goal.returns-in-Some-clause-unsound
returns-in-Some-clause-unsound c =
    λ _. refused_different c.args.scenario.now c.args.text.now c.args.text.now c.in_ok-chronicle.chronicle c.in-Some.place refl c.in_ok-chronicle.ensures c.in-Some.ensures.differs
