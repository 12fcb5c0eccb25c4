use Rattle.std.proofs.Common.{ℕ, ◌+◌, refl, sym, subst, List}
use Rattle.std.proofs.lemmas.Result.{err_from_is_err_and}
use Rattle.surveys.specs.Parts.{IsWrong, cut_off}
use Rattle.surveys.proofs.PartLemmas.{not_empty, on_goes, stops_at, wrong_more}
use Rattle.surveys.proofs.part_reader.add_rows.Goals as goal

pub returns-in_default-clause-wrong : goal.returns-in_default-clause-wrong
returns-in_default-clause-wrong c = λ other.
    stops_at c.args.head.now c.args.lines.now c.loop-rest.rest.now c.args.seeds.0 c.args.seeds.1 c.loop-rest.number c.args.findings.now.items c.loop-rest.findings.items c.loop-rest.findings.items _
    c.loop-rest.invariant refl (cut_off (not_empty c.loop-rest.rest.now c.loop-rest-test.ensures) c.in_default.ensures.none)

pub returns-in_err-add_row-clause-wrong : goal.returns-in_err-add_row-clause-wrong
returns-in_err-add_row-clause-wrong c =
    let p = err_from_is_err_and c.from_residual.result c.from_residual.ensures.1 in
    let head = c.args.head.now in
    let line = c.in-Some.line.now in
    let behind = c.in-Some.behind.now in
    let number = c.loop-rest.number in
    let e = c.in_err-add_row.field-0.0 in
    rw (p.1, p.2) (λ other.
    stops_at head c.args.lines.now c.loop-rest.rest.now c.args.seeds.0 c.args.seeds.1 number c.args.findings.now.items c.loop-rest.findings.items c.add_row.new.findings.items e c.loop-rest.invariant (c.in_err-add_row.ensures.left other)
    (subst (λ (rest : List ℕ). IsWrong head rest c.args.seeds.0 c.args.seeds.1 number e) (sym c.in-Some.ensures.whole)
    (wrong_more head line behind c.args.seeds.0 c.args.seeds.1 number e c.in-Some.ensures.line (c.in_err-add_row.ensures.wrong other))))

pub loop-rest-preserved : goal.loop-rest-preserved
loop-rest-preserved c =
    on_goes c.args.head.now c.args.lines.now c.loop-rest.rest.now c.in-Some.line.now c.in-Some.behind.now c.args.seeds.0 c.args.seeds.1 c.loop-rest.number (c.loop-rest.number + 1) c.args.findings.now.items c.loop-rest.findings.items
    c.add_row.new.findings.items c.loop-rest.invariant c.in-Some.ensures.whole c.in-Some.ensures.line refl c.in_ok-add_row.ensures.added
