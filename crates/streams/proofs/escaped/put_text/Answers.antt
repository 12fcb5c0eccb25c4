use Rattle.std.proofs.Common.{◌≡◌, false, ◌∙◌, ap, sym, map-id, rules}
use Rattle.std.proofs.Output.{has_written_append, has_written_of_eq}
use Rattle.std.specs.List.{flat_map}
use Rattle.std.specs.Str.{encode_utf8_all}
use Rattle.std.proofs.lemmas.Iterator.{YieldsList-from_chars}
use Rattle.std.proofs.lemmas.Iterator.Consumers.{YieldsList-end}
use Rattle.streams.specs.Escapes.{displayed, escaped}
use Rattle.streams.specs.Names.{has_control}
use Rattle.streams.proofs.EscapeLaws.{clean_same, one_more}
use Rattle.streams.proofs.escaped.put_text.Goals as goal

pub loop-character-preserved : goal.loop-character-preserved
loop-character-preserved g c = λ plain.
    has_written_of_eq _ _ _ _ _ (one_more c.args.kept c.loop-character.yielded c.in-Some.character)
    (has_written_append _ _ _ _ _ _ (c.loop-character.invariant plain) (search rules))

pub returns-then-not-has_control : goal.returns-then-not-has_control
returns-then-not-has_control g c = λ plain ok.
    let none : has_control c.args.text.now ≡ false = search rules in
    has_written_of_eq _ _ _ _ _ (sym (clean_same c.args.kept c.args.text.now c.utf8.text none)) (c.write_str.ensures.writes plain ok)

pub returns : goal.returns
unfolding escaped
returns g c = λ plain ok.
    let all = YieldsList-end (YieldsList-from_chars c.args.text.now c.utf8.text cc) c.loop-character.yielded _ c.loop-character.yielded_by _ _ c.in-None.is c.next.ensures.steps in
    has_written_of_eq _ _ _ _ _
    (ap (λ cs. encode_utf8_all (flat_map (displayed c.args.kept) cs)) (sym (map-id c.loop-character.yielded) ∙ all.0))
    (c.loop-character.invariant plain)
