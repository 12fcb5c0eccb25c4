use Rattle.std.proofs.Common.{◌^◌, ◌∙◌, arith}
use Rattle.surveys.proofs.Rereading.{found_is, number_is_said, number_says}
use Rattle.surveys.proofs.line_reader.found_by.Goals as goal

pub returns-in_err-bound : goal.returns-in_err-bound
returns-in_err-bound c = λ f h w. (let small = h.bound in number_is_said 256 f.bound c.args.bound.now c.in_err-bound.ensures small (omega arith) w.bound)

pub returns-in_err-generals : goal.returns-in_err-generals
returns-in_err-generals c = λ f h w. (let small = h.generals in number_is_said 256 f.generals c.args.generals.now c.in_err-generals.ensures small (omega arith) w.generals)

pub returns-in_err-seed : goal.returns-in_err-seed
returns-in_err-seed c = λ f h w. number_is_said (2 ^ 64) f.seed c.args.seed.now c.in_err-seed.ensures h.seed h.seed w.seed

pub returns-in_err-traitors : goal.returns-in_err-traitors
returns-in_err-traitors c = λ f h w. number_is_said (2 ^ 64) f.traitors c.args.traitors.now c.in_err-traitors.ensures h.traitors h.traitors w.traitors

pub returns : goal.returns
returns c = λ f h w. (
    let small = h.bound in
    let few = h.generals in
    found_is f c.in_ok-seed.seed c.in_ok-generals.generals c.in_ok-bound.bound c.in_ok-traitors.traitors c.in_ok-alike.alike c.in_ok-kept.kept c.in_ok-obeyed.obeyed
    (c.in_ok-seed.ensures ∙ number_says (2 ^ 64) f.seed c.args.seed.now h.seed h.seed w.seed)
    (c.in_ok-generals.ensures ∙ number_says 256 f.generals c.args.generals.now few (omega arith) w.generals)
    (c.in_ok-bound.ensures ∙ number_says 256 f.bound c.args.bound.now small (omega arith) w.bound)
    (c.in_ok-traitors.ensures ∙ number_says (2 ^ 64) f.traitors c.args.traitors.now h.traitors h.traitors w.traitors)
    (c.in_ok-alike.ensures f.verdict.alike w.alike)
    (c.in_ok-kept.ensures f.verdict.bound w.kept)
    (c.in_ok-obeyed.ensures f.verdict.obeyed w.obeyed))
