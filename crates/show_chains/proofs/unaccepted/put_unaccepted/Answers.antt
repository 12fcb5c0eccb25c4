use Rattle.std.proofs.Common.{ℕ, List, ◌≡◌, ◌+◌, ◌++◌, ◌∙◌, ap, arith}
use Rattle.std.specs.List.{flat_map, range_with_len}
use Rattle.std.specs.String.{string_bytes}
use Rattle.book.proofs.Gathering.{range_text}
use Rattle.round.specs.Scenario.{Scenario}
use Rattle.signed.specs.Chains.{Chain}
use Rattle.signed.specs.Explained.{chains_of}
use Rattle.show_chains.specs.Unaccepted.{lines_in, unaccepted_lines}
use Rattle.show_chains.proofs.unaccepted.put_unaccepted.Goals as goal

pub loop-before-preserved : goal.loop-before-preserved
loop-before-preserved c =
    let all : List Chain = chains_of c.args.chronicle.now c.args.general in
    let piece = lines_in c.args.chronicle.now all c.args.general in
    let brought : c.as_slice.result.now ≡ all = c.as_slice.ensures.value ∙ c.in_ok-brought.ensures in
    c.in_ok-put_round.ensures
    ∙ (ap (λ (xs : List Chain). string_bytes c.loop-before.out ++ lines_in c.args.chronicle.now xs c.args.general c.loop-before.before) brought
    ∙ (ap (λ xs. xs ++ piece c.loop-before.before) c.loop-before.invariant ∙ range_text piece c.loop-before.before (string_bytes c.args.out.now)))

pub returns : goal.returns
unfolding unaccepted_lines
returns c =
    let told = c.args.chronicle.now in
    let piece = lines_in told (chains_of told c.args.general) c.args.general in
    let bound : c.bound-before-end.result ≡ told.scenario.bound = c.bound-before-end.ensures.same ∙ ap (λ (s : Scenario). s.bound) c.scenario.ensures in
    let past = c.loop-before-test.false in
    let within = c.loop-before.auto.before-end in
    let all : c.loop-before.before ≡ told.scenario.bound + 1 = omega arith in
    c.loop-before.invariant ∙ ap (λ (k : ℕ). string_bytes c.args.out.now ++ flat_map piece (range_with_len 0 k)) all
