use Rattle.std.proofs.Common.{rules, ◌≡◌, ◌∷◌, ◌∙◌, List, ℕ, ap, length, map}
use Rattle.text.specs.Stop.{space, feed}
use Rattle.text.specs.Parts.{pieces}
use Rattle.trace.specs.Names.{Named, named, with_line}
use Rattle.trace.specs.Marks.{all_names, lines_left, marked}
use Rattle.trace.specs.Text.{Line}
use Rattle.trace.specs.declared.access_names.Mark.TheVariants.{Round}
use Rattle.trace.proofs.MarkLemmas.{first_lists, lines_split, round_begun}
use Rattle.trace.proofs.access_names.names.Goals as goal

pub returns-then-len-most : goal.returns-then-len-most
returns-then-len-most c =
    let line : Line = pieces space c.parted.result.0.now in
    let later : List Line = map (pieces space) (lines_left c.parted.result.1) in
    let all : List (List ℕ) = all_names (named (map (pieces space) (pieces feed c.args.text.now))) in
    let split : map (pieces space) (lines_left c.loop-rest.rest) ≡ line ∷ later =
    ap (λ rest. map (pieces space) (lines_left rest)) c.in-Some.is ∙ ap (map (pieces space)) (lines_split c.parted.result.0.now c.parted.result.1 (pieces feed c.in-Some.lines.now) c.parted.ensures.first) in
    let begins : (rest : Named) → marked Round rest ≡ with_line line rest = rw c.in-Round.is at c.said.ensures in
    let long : length c.push.new.self.items ≡ c.args.most = search rules in
    first_lists c.push.new.self.items (all_names (named later)) all c.args.most
    (round_begun c.loop-rest.rounds.items c.push.new.self.items c.loop-rest.names line later (map (pieces space) (lines_left c.loop-rest.rest)) all
    c.in_ok-push-in-Round.ensures.items split begins c.loop-rest.invariant.told)
    long
