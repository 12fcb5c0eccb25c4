-- Rows, computed: signed campaigns from their traitors' programs to their texts. Written by checks/generate.
use Rattle.std.proofs.Common.{◌≡◌, ℕ, List, [], ◌∷◌, ◌++◌, refl}
use Rattle.std.specs.Prelude.{codes}
use Rattle.std.specs.Fmt.{digits}
use Rattle.semantics.specs.Execution.{step}
use Rattle.mem.specs.ContextLayout.{context_bytes}
use Rattle.world.specs.KindLists.{listed, replayed}
use Rattle.signed.specs.Accepted.{held, accepted}
use Rattle.signed.specs.Loyal.{loyal_entries}
use Rattle.signed.specs.Sent.{held_behind, sent_in}
use Rattle.signed.specs.Kind.{signed_kind, played}
use Rattle.signed.specs.Chronicle.{signed_decisions, signed_chronicle_of}
use Rattle.signed.proofs.ProgramRows.{passing, torn, pair, late, twice}
use Rattle.trace.specs.SignedText.{signed_lines, signed_text}

-- lines, each with its LF
abbrev whole : List (List ℕ) → List ℕ
whole [] = []
whole (l ∷ ls) = l ++ 10 ∷ whole ls

passing_text : signed_text (signed_chronicle_of (played passing (listed passing []))) ≡ whole (
    codes "chronicle 3"
    ∷ codes "signed generals 3 bound 1 commander 0 order 1 patience -"
    ∷ codes "round 1"
    ∷ codes "letter 0 loyal"
    ∷ codes "chain 1 0 to 1.2"
    ∷ codes "letter 1 loyal"
    ∷ codes "letter 2 steps 4"
    ∷ codes "round 2"
    ∷ codes "letter 0 loyal"
    ∷ codes "letter 1 loyal"
    ∷ codes "chain 1 0.1 to 2"
    ∷ codes "letter 2 steps 4"
    ∷ codes "chain 1 0.2 to 1"
    ∷ codes "decision 1 1"
    ∷ codes "decision 2 traitor 1"
    ∷ codes "verdict alike yes obeyed yes bound yes"
    ∷ [])
unfolding signed_text signed_lines signed_decisions sent_in held_behind held accepted loyal_entries context_bytes step digits
passing_text = refl

torn_text : signed_text (signed_chronicle_of (played torn (replayed signed_kind torn []))) ≡ whole (
    codes "chronicle 3"
    ∷ codes "signed generals 3 bound 1 commander 0 order 0 patience -"
    ∷ codes "round 1"
    ∷ codes "letter 0 steps 7"
    ∷ codes "chain 1 0 to 1"
    ∷ codes "chain 0 0 to 2"
    ∷ codes "letter 1 loyal"
    ∷ codes "letter 2 loyal"
    ∷ codes "round 2"
    ∷ codes "letter 0 steps 7"
    ∷ codes "chain 1 0 to 1"
    ∷ codes "chain 0 0 to 2"
    ∷ codes "letter 1 loyal"
    ∷ codes "chain 1 0.1 to 2"
    ∷ codes "letter 2 loyal"
    ∷ codes "chain 0 0.2 to 1"
    ∷ codes "decision 1 0"
    ∷ codes "decision 2 0"
    ∷ codes "verdict alike yes obeyed - bound yes"
    ∷ [])
unfolding signed_text signed_lines signed_decisions sent_in held_behind held accepted loyal_entries context_bytes step digits
torn_text = refl

pair_text : signed_text (signed_chronicle_of (played pair (replayed signed_kind pair ((2 ∷ 0 ∷ 2 ∷ []) ∷ [])))) ≡ whole (
    codes "chronicle 3"
    ∷ codes "signed generals 3 bound 1 commander 0 order 1 patience -"
    ∷ codes "round 1"
    ∷ codes "access 2 get 5 = 0"
    ∷ codes "access 0 swap 5 7 = 0"
    ∷ codes "access 2 get 5 = 7"
    ∷ codes "letter 0 steps 7"
    ∷ codes "chain 1 0 to 1.2"
    ∷ codes "letter 1 loyal"
    ∷ codes "letter 2 steps 10"
    ∷ codes "round 2"
    ∷ codes "access 0 swap 5 7 = 7"
    ∷ codes "access 2 get 5 = 7"
    ∷ codes "access 2 get 5 = 7"
    ∷ codes "letter 0 steps 7"
    ∷ codes "chain 1 0 to 1.2"
    ∷ codes "letter 1 loyal"
    ∷ codes "chain 1 0.1 to 2"
    ∷ codes "letter 2 steps 10"
    ∷ codes "chain 1 0.2 to 1"
    ∷ codes "decision 1 1"
    ∷ codes "decision 2 traitor 1"
    ∷ codes "verdict alike yes obeyed - bound no"
    ∷ [])
unfolding signed_text signed_lines signed_decisions sent_in held_behind held accepted loyal_entries context_bytes step digits
pair_text = refl

late_text : signed_text (signed_chronicle_of (played late (listed late ((3 ∷ 1 ∷ 0 ∷ 2 ∷ 0 ∷ 3 ∷ []) ∷ [])))) ≡ whole (
    codes "chronicle 3"
    ∷ codes "signed generals 4 bound 2 commander 0 order 1 patience 4"
    ∷ codes "round 1"
    ∷ codes "letter 0 steps 4"
    ∷ codes "chain 7 0 to 3"
    ∷ codes "letter 1 loyal"
    ∷ codes "letter 2 loyal"
    ∷ codes "letter 3 steps 4"
    ∷ codes "round 2"
    ∷ codes "letter 0 steps 4"
    ∷ codes "chain 7 0 to 3"
    ∷ codes "letter 1 loyal"
    ∷ codes "letter 2 loyal"
    ∷ codes "letter 3 steps 4"
    ∷ codes "chain 7 0.3 to 1.2"
    ∷ codes "round 3"
    ∷ codes "letter 0 steps 4"
    ∷ codes "chain 7 0 to 3"
    ∷ codes "letter 1 loyal"
    ∷ codes "chain 7 0.3.1 to 2"
    ∷ codes "letter 2 loyal"
    ∷ codes "chain 7 0.3.2 to 1"
    ∷ codes "letter 3 steps 4"
    ∷ codes "chain 7 0.3 to 1.2"
    ∷ codes "decision 1 7"
    ∷ codes "decision 2 7"
    ∷ codes "decision 3 traitor 7"
    ∷ codes "verdict alike yes obeyed - bound yes"
    ∷ [])
unfolding signed_text signed_lines signed_decisions sent_in held_behind held accepted loyal_entries context_bytes step digits
late_text = refl

twice_text : signed_text (signed_chronicle_of (played twice (listed twice []))) ≡ whole (
    codes "chronicle 3"
    ∷ codes "signed generals 4 bound 2 commander 0 order 1 patience -"
    ∷ codes "round 1"
    ∷ codes "letter 0 steps 6"
    ∷ codes "chain 7 0 to 3"
    ∷ codes "letter 1 loyal"
    ∷ codes "letter 2 loyal"
    ∷ codes "letter 3 steps 6"
    ∷ codes "round 2"
    ∷ codes "letter 0 steps 3"
    ∷ codes "letter 1 loyal"
    ∷ codes "letter 2 loyal"
    ∷ codes "letter 3 steps 6"
    ∷ codes "chain 7 0.3 to -"
    ∷ codes "round 3"
    ∷ codes "letter 0 steps 3"
    ∷ codes "letter 1 loyal"
    ∷ codes "letter 2 loyal"
    ∷ codes "letter 3 steps 6"
    ∷ codes "decision 1 0"
    ∷ codes "decision 2 0"
    ∷ codes "decision 3 traitor 7"
    ∷ codes "verdict alike yes obeyed - bound yes"
    ∷ [])
unfolding signed_text signed_lines signed_decisions sent_in held_behind held accepted loyal_entries context_bytes step digits
twice_text = refl
