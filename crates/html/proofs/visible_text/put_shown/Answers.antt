use Rattle.std.proofs.Common.{◌≡◌, ℕ, List, [], ◌∷◌, ◌++◌, ◌∙◌, ap, sym, map-id, append_assoc}
use Rattle.std.specs.String.{string_bytes}
use Rattle.std.specs.Str.{encode_utf8_all}
use Rattle.std.proofs.lemmas.List.{flat_map_more}
use Rattle.std.proofs.lemmas.List.Concat.{flat_map-append}
use Rattle.std.proofs.lemmas.Str.{encodes-append}
use Rattle.std.proofs.lemmas.Iterator.{YieldsList-from_chars}
use Rattle.std.proofs.lemmas.Iterator.Consumers.{YieldsList-end}
use Rattle.html.specs.Escaped.{escaped, written}
use Rattle.html.specs.Visible.{made_visible, visible}
use Rattle.html.proofs.visible_text.put_shown.Goals as goal

-- Showing one more character appends its visible and escaped form.
more : (cs : List ℕ) (c : ℕ) (old : List ℕ)
    → (old ++ encode_utf8_all (escaped (visible cs))) ++ encode_utf8_all (escaped (made_visible c)) ≡ old ++ encode_utf8_all (escaped (visible (cs ++ c ∷ [])))
more cs c old =
    append_assoc old (encode_utf8_all (escaped (visible cs))) (encode_utf8_all (escaped (made_visible c)))
    ∙ ap (λ bs. old ++ bs)
    (sym (encodes-append (escaped (visible cs)) (escaped (made_visible c)))
    ∙ ap encode_utf8_all (sym (flat_map-append written (visible cs) (made_visible c)) ∙ ap escaped (flat_map_more made_visible [] cs c)))

pub loop-character-preserved : goal.loop-character-preserved
loop-character-preserved c =
    c.in_ok-put_visible.ensures
    ∙ (ap (λ bs. bs ++ encode_utf8_all (escaped (made_visible c.in-Some.character))) c.loop-character.invariant
    ∙ more c.loop-character.yielded c.in-Some.character (string_bytes c.args.out.now))

pub returns : goal.returns
returns c =
    let all = YieldsList-end (YieldsList-from_chars c.args.text.now c.utf8.text cc) c.loop-character.yielded _ c.loop-character.yielded_by _ _ c.in-None.is c.next.ensures.steps in
    c.loop-character.invariant
    ∙ ap (λ cs. string_bytes c.args.out.now ++ encode_utf8_all (escaped (visible cs))) (sym (map-id c.loop-character.yielded) ∙ all.0)
