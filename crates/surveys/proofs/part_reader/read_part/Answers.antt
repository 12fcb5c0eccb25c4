use Rattle.std.proofs.Common.{rules, ◌≡◌, true, sym, ◌∙◌, subst, List, ℕ, arith}
use Rattle.std.proofs.lemmas.Result.{err_from_is_err_and, on_ok_weaker}
use Rattle.surveys.specs.declared.parts.PartError.{PartError}
use Rattle.surveys.specs.declared.parts.PartError.TheVariants.{Line, Family, Memory}
use Rattle.surveys.specs.Heads.{is_head}
use Rattle.surveys.specs.Parts.{AddsAll, IsFaulty, cut_off, unknown, foreign}
use Rattle.surveys.proofs.PartLemmas.{first_wrong, not_empty, read_on}
use Rattle.surveys.proofs.Walks.{never_faulty, taken_by, told_by, wrong_by}
use Rattle.surveys.proofs.part_reader.read_part.Goals as goal

pub returns-in_default-clause-wrong : goal.returns-in_default-clause-wrong
returns-in_default-clause-wrong c = λ other. first_wrong c.args.parts.now.head.items c.args.bytes.now c.args.seeds.0 c.args.seeds.1 c.args.parts.now.findings.items _ (cut_off (not_empty c.args.bytes.now c.if-is_empty.ensures) c.in_default.ensures.none)

pub returns-then-not-is_head-clause-wrong : goal.returns-then-not-is_head-clause-wrong
returns-then-not-is_head-clause-wrong c = λ other.
    first_wrong c.args.parts.now.head.items c.args.bytes.now c.args.seeds.0 c.args.seeds.1 c.args.parts.now.findings.items _
    (unknown c.in-Some.line.now c.in-Some.behind.now c.in-Some.ensures.whole c.in-Some.ensures.line (search rules) (λ lt. absurd (omega (arith, lt))))

pub returns-then-not-is_head-clause-taken : goal.returns-then-not-is_head-clause-taken
returns-then-not-is_head-clause-taken c = λ h told f.
    absurd (never_faulty c.args.parts.now.head.items c.args.parts.now.head.items h c.args.bytes.now c.args.seeds.0 c.args.seeds.1 c.args.parts.now.findings.items c.args.parts.now.findings.items told (Line 1) (omega arith) f
    (returns-then-not-is_head-clause-wrong c (λ k. (let z : Line 1 ≡ Memory = k in cc))))

pub returns-in_err-take_head-clause-wrong : goal.returns-in_err-take_head-clause-wrong
returns-in_err-take_head-clause-wrong c =
    let p = err_from_is_err_and c.from_residual.result c.from_residual.ensures.1 in
    let before = c.args.parts.now.head.items in
    let after = c.take_head.new.head.items in
    let bytes = c.args.bytes.now in
    let now = c.args.parts.now.findings.items in
    let first = c.args.seeds.0 in
    let last = c.args.seeds.1 in
    let begins : is_head c.in-Some.line.now ≡ true = sym c.is_head.ensures ∙ c.if-not-is_head.false in
    rw (p.1, p.2) (λ other.
    let w = c.in_err-take_head.ensures.foreign other in
    subst (λ (e : PartError). IsFaulty before after bytes first last now now e) (sym w.0)
    (subst (λ (head : List ℕ). IsFaulty before head bytes first last now now (Family 1)) (sym (c.in_err-take_head.ensures.left other))
    (first_wrong before bytes first last now (Family 1) (foreign c.in-Some.line.now c.in-Some.behind.now c.in-Some.ensures.whole (record { begins = begins; line = c.in-Some.ensures.line }) w.1 w.2))))

pub returns-in_err-take_head-clause-taken : goal.returns-in_err-take_head-clause-taken
returns-in_err-take_head-clause-taken c = λ h told f.
    taken_by c.args.parts.now.head.items c.take_head.new.head.items h c.args.bytes.now c.args.seeds.0 c.args.seeds.1 c.args.parts.now.findings.items c.args.parts.now.findings.items told c.from_residual.result (omega arith) f
    (returns-in_err-take_head-clause-wrong c)

pub returns-clause-read : goal.returns-clause-read
returns-clause-read c =
    let old = c.args.parts.now.findings.items in
    let new = c.add_rows.new.findings.items in
    let line = c.in-Some.line.now in
    let behind = c.in-Some.behind.now in
    let head = c.take_head.new.head.items in
    let begins : is_head line ≡ true = sym c.is_head.ensures ∙ c.if-not-is_head.false in
    on_ok_weaker c.add_rows.result
    (λ (adds : AddsAll c.as_slice.result.now behind c.args.seeds.0 c.args.seeds.1 old new).
    read_on c.args.parts.now.head.items head line behind c.args.bytes.now c.args.seeds.0 c.args.seeds.1 old new c.in-Some.ensures.whole c.in_ok-take_head.ensures.taken
    (record { begins = begins; line = c.in-Some.ensures.line }) c.in_ok-take_head.ensures.same
    (subst (λ (l : List ℕ). AddsAll l behind c.args.seeds.0 c.args.seeds.1 old new) c.as_slice.ensures.value adds))
    c.add_rows.ensures.added

pub returns-clause-wrong : goal.returns-clause-wrong
returns-clause-wrong c =
    let begins : is_head c.in-Some.line.now ≡ true = sym c.is_head.ensures ∙ c.if-not-is_head.false in
    wrong_by c.args.parts.now.head.items c.take_head.new.head.items c.in-Some.line.now c.in-Some.behind.now c.args.bytes.now c.args.seeds.0 c.args.seeds.1 c.args.parts.now.findings.items c.add_rows.new.findings.items c.add_rows.result
    c.in-Some.ensures.whole c.in_ok-take_head.ensures.taken (record { begins = begins; line = c.in-Some.ensures.line }) c.in_ok-take_head.ensures.same (rw (← c.as_slice.ensures.value) c.add_rows.ensures.wrong)

pub returns-clause-taken : goal.returns-clause-taken
returns-clause-taken c = λ h told f.
    taken_by c.args.parts.now.head.items c.take_head.new.head.items h c.args.bytes.now c.args.seeds.0 c.args.seeds.1 c.args.parts.now.findings.items c.add_rows.new.findings.items told c.add_rows.result (omega arith) f (returns-clause-wrong c)

pub returns-clause-told : goal.returns-clause-told
returns-clause-told c = λ h told f.
    told_by c.args.parts.now.head.items c.take_head.new.head.items h c.args.bytes.now c.args.seeds.0 c.args.seeds.1 c.args.parts.now.findings.items c.add_rows.new.findings.items told c.add_rows.result (omega arith) f (returns-clause-read c)
