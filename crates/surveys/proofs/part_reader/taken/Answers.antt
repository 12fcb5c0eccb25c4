use Rattle.std.proofs.Common.{◌≡◌, ◌<◌, ◌^◌, Option, None, Some, false, true, refl, sym, subst, arith, ⊎_elim}
use Rattle.surveys.specs.declared.finding.Finding.{Finding as Found}
use Rattle.surveys.specs.declared.parts.PartError.TheVariants.{Line, Seed}
use Rattle.surveys.specs.Parts.{IsCampaign, IsUntaken, untold, unsized, too_early, too_late}
use Rattle.surveys.proofs.part_reader.taken.Goals as goal

pub returns-in_default-clause-taken : goal.returns-in_default-clause-taken
returns-in_default-clause-taken c =
    subst (λ (o : Option Found). IsUntaken c.args.seeds.0 c.args.seeds.1 c.args.number o (Line c.args.number)) (sym c.in_default.is) untold

pub returns-then-not-is_sized-clause-taken : goal.returns-then-not-is_sized-clause-taken
returns-then-not-is_sized-clause-taken c =
    subst (λ (o : Option Found). IsUntaken c.args.seeds.0 c.args.seeds.1 c.args.number o (Line c.args.number)) (sym c.in-Some.is)
    (unsized c.in-Some.finding (λ sized. (let z : false ≡ true = c.if-not-is_sized.ensures.1 sized in cc)))

pub returns-then-seed-seeds-clause-taken : goal.returns-then-seed-seeds-clause-taken
returns-then-seed-seeds-clause-taken c =
    let f = c.in-Some.finding in
    let fits : f.seed < 2 ^ 64 = omega arith in
    let camp : IsCampaign f = (c.if-not-is_sized.ensures.0 refl, fits) in
    subst (λ (o : Option Found). IsUntaken c.args.seeds.0 c.args.seeds.1 c.args.number o (Seed c.args.number f.seed)) (sym c.in-Some.is)
    (⊎_elim (λ low. too_early f camp low) (λ high. too_late f camp high.1) c.then-seed-seeds.either)
