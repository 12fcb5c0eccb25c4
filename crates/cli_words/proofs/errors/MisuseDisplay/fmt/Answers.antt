use Rattle.std.proofs.Common.{◌≡◌, ◌∙◌, ◌++◌, List, Option, Some, None, ℕ, ap, append_assoc, codes, option_map, refl, string_bytes, subst, sym}
use Rattle.std.specs.Fmt.{DisplaysOnOk, debug_str, ◌++?◌}
use Rattle.cli_words.proofs.errors.MisuseDisplay.fmt.Goals as goal

-- A text that is joined from the left.
parts : (a own b option d wanted behind : List ℕ) → behind ≡ b ++ (option ++ (d ++ wanted)) → a ++ own ++ b ++ option ++ d ++ wanted ≡ a ++ (own ++ behind)
parts a own b option d wanted behind e =
    append_assoc (a ++ own ++ b ++ option) d wanted ∙ (append_assoc (a ++ own ++ b) option (d ++ wanted) ∙ (append_assoc (a ++ own) b (option ++ (d ++ wanted))
    ∙ (append_assoc a own (b ++ (option ++ (d ++ wanted))) ∙ ap (λ (l : List ℕ). a ++ (own ++ l)) (sym e))))

-- The text about a word, and about what is expected in its place.
quoting : (Writes : Option (List ℕ) → Type 0) (quoted : Option (List ℕ)) (behind option wanted : List ℕ) → behind ≡ codes " for '" ++ (option ++ (codes "': " ++ wanted))
    → Writes (Some (codes "invalid value ") ++? (quoted ++? Some behind))
    → Writes (option_map (λ own. codes "invalid value " ++ own ++ codes " for '" ++ option ++ codes "': " ++ wanted) quoted)
quoting Writes None behind option wanted e writes = writes
quoting Writes (Some own) behind option wanted e writes =
    subst (λ (text : List ℕ). Writes (Some text)) (sym (parts (codes "invalid value ") own (codes " for '") option (codes "': ") wanted behind e)) writes

pub returns-in-Traitors-clause-writes : goal.returns-in-Traitors-clause-writes
returns-in-Traitors-clause-writes g c =
    rw c.in-Traitors.is (quoting (λ text. DisplaysOnOk g.W.Write.write_str_gives c.args.f.now c.write.result text c.write.new.self) (debug_str (string_bytes c.in-Traitors.word))
    (codes " for '--traitors <G,H>': the numbers of generals, 0 to 12, joined by commas") (codes "--traitors <G,H>") (codes "the numbers of generals, 0 to 12, joined by commas") refl c.write.ensures.writes)

pub returns-in-Of-clause-writes : goal.returns-in-Of-clause-writes
returns-in-Of-clause-writes g c =
    rw c.in-Of.is (quoting (λ text. DisplaysOnOk g.W.Write.write_str_gives c.args.f.now c.write-in-Of.result text c.write-in-Of.new.self) (debug_str (string_bytes c.in-Of.word))
    (codes " for '--of <G>': the number of a general, 0 to 12") (codes "--of <G>") (codes "the number of a general, 0 to 12") refl c.write-in-Of.ensures.writes)

pub returns-in-Lie-clause-writes : goal.returns-in-Lie-clause-writes
returns-in-Lie-clause-writes g c =
    rw c.in-Lie.is (quoting (λ text. DisplaysOnOk g.W.Write.write_str_gives c.args.f.now c.write-in-Lie.result text c.write-in-Lie.new.self) (debug_str (string_bytes c.in-Lie.word))
    (codes " for '--lie <G>': the number of a general, 0 to 12") (codes "--lie <G>") (codes "the number of a general, 0 to 12") refl c.write-in-Lie.ensures.writes)

pub returns-in-Loyal-clause-writes : goal.returns-in-Loyal-clause-writes
returns-in-Loyal-clause-writes g c =
    rw c.in-Loyal.is (quoting (λ text. DisplaysOnOk g.W.Write.write_str_gives c.args.f.now c.write-in-Loyal.result text c.write-in-Loyal.new.self) (debug_str (string_bytes c.in-Loyal.word))
    (codes " for '--loyal <V>': an order, 0 to 4294967295") (codes "--loyal <V>") (codes "an order, 0 to 4294967295") refl c.write-in-Loyal.ensures.writes)

pub returns-in-Most-clause-writes : goal.returns-in-Most-clause-writes
returns-in-Most-clause-writes g c =
    rw c.in-Most.is (quoting (λ text. DisplaysOnOk g.W.Write.write_str_gives c.args.f.now c.write-in-Most.result text c.write-in-Most.new.self) (debug_str (string_bytes c.in-Most.word))
    (codes " for '--most <N>': a whole number, 1 to 18446744073709551615") (codes "--most <N>") (codes "a whole number, 1 to 18446744073709551615") refl c.write-in-Most.ensures.writes)

pub returns-in-Depth-clause-writes : goal.returns-in-Depth-clause-writes
returns-in-Depth-clause-writes g c =
    rw c.in-Depth.is (quoting (λ text. DisplaysOnOk g.W.Write.write_str_gives c.args.f.now c.write-in-Depth.result text c.write-in-Depth.new.self) (debug_str (string_bytes c.in-Depth.word))
    (codes " for '--depth <D>': a number of levels, 0 to 4") (codes "--depth <D>") (codes "a number of levels, 0 to 4") refl c.write-in-Depth.ensures.writes)

pub returns-in-Seed-clause-writes : goal.returns-in-Seed-clause-writes
returns-in-Seed-clause-writes g c =
    rw c.in-Seed.is (quoting (λ text. DisplaysOnOk g.W.Write.write_str_gives c.args.f.now c.write-in-Seed.result text c.write-in-Seed.new.self) (debug_str (string_bytes c.in-Seed.word))
    (codes " for '--seed <S>': a whole number, 0 to 18446744073709551615") (codes "--seed <S>") (codes "a whole number, 0 to 18446744073709551615") refl c.write-in-Seed.ensures.writes)

pub returns-in-Generals-clause-writes : goal.returns-in-Generals-clause-writes
returns-in-Generals-clause-writes g c =
    rw c.in-Generals.is (quoting (λ text. DisplaysOnOk g.W.Write.write_str_gives c.args.f.now c.write-in-Generals.result text c.write-in-Generals.new.self) (debug_str (string_bytes c.in-Generals.word))
    (codes " for '--generals <N>': how many generals there are, 2 to 13") (codes "--generals <N>") (codes "how many generals there are, 2 to 13") refl c.write-in-Generals.ensures.writes)

pub returns-in-Bound-clause-writes : goal.returns-in-Bound-clause-writes
returns-in-Bound-clause-writes g c =
    rw c.in-Bound.is (quoting (λ text. DisplaysOnOk g.W.Write.write_str_gives c.args.f.now c.write-in-Bound.result text c.write-in-Bound.new.self) (debug_str (string_bytes c.in-Bound.word))
    (codes " for '--bound <M>': a bound on the traitors, 0 to 4") (codes "--bound <M>") (codes "a bound on the traitors, 0 to 4") refl c.write-in-Bound.ensures.writes)

pub returns-in-TraitorCount-clause-writes : goal.returns-in-TraitorCount-clause-writes
returns-in-TraitorCount-clause-writes g c =
    rw c.in-TraitorCount.is (quoting (λ text. DisplaysOnOk g.W.Write.write_str_gives c.args.f.now c.write-in-TraitorCount.result text c.write-in-TraitorCount.new.self) (debug_str (string_bytes c.in-TraitorCount.word))
    (codes " for '--traitors <K>': a number of traitors, 0 to 12") (codes "--traitors <K>") (codes "a number of traitors, 0 to 12") refl c.write-in-TraitorCount.ensures.writes)

pub returns-in-Commander-clause-writes : goal.returns-in-Commander-clause-writes
returns-in-Commander-clause-writes g c =
    rw c.in-Commander.is (quoting (λ text. DisplaysOnOk g.W.Write.write_str_gives c.args.f.now c.write-in-Commander.result text c.write-in-Commander.new.self) (debug_str (string_bytes c.in-Commander.word))
    (codes " for '--commander <C>': the number of a general, 0 to 12") (codes "--commander <C>") (codes "the number of a general, 0 to 12") refl c.write-in-Commander.ensures.writes)
