-- The lines and names that the assembler stores.
use Rattle.std.proofs.Common.{◌≡◌, ℕ, ◌≤◌, ◌+◌, ◌++◌, false, List, [], ◌∷◌, refl, sym, ap, ◌∙◌, Bor, Vec, map, length, arith}
use Rattle.std.specs.Prelude.{Ok, Some, is_some}
use Rattle.std.specs.declared.alloc.Global.{Global}
use Rattle.std.specs.Cmp.Lexicographic.{slice_cmp}
use Rattle.std.specs.Ordering.{nat_cmp}
use Rattle.std.specs.List.{sum_by}
use Rattle.std.specs.BTreeMap.{BTreeMap, get_by, UpdatesBy}
use Rattle.std.proofs.lemmas.Map.Text.{btree_map_updates_str}
use Rattle.std.proofs.lemmas.List.{length-map}
use Rattle.std.proofs.lemmas.List.Sums.{sum_by-cons, sum_by_push}
use Rattle.text.specs.Stop.{feed}
use Rattle.text.specs.Parts.{pieces}
use Rattle.text.proofs.PartsLemmas.{pieces_is}
use Rattle.insn.proofs.SlotLemmas.{units_some}
use Rattle.asm.specs.declared.draft.Kept.{Kept}
use Rattle.asm.specs.Views.{kept_view}
use Rattle.asm.specs.declared.reader.Reading.{Reading}
use Rattle.asm.specs.Distance.{defined}
use Rattle.asm.specs.Statement.{Source, Plain, Jump, LongJump, Branch}
use Rattle.asm.specs.Program.{Placed, Read, source_units, lines_of, without_return, ended, with_name, placed_units}
use Rattle.asm.specs.Keeping.{Keeps, Finds, units_kept}

-- A text that is one piece is one line.
pub lines_last : (text front : List ℕ) → pieces feed text ≡ front ∷ [] → 1 ≤ length front → lines_of text ≡ front ∷ []
lines_last text [] h some = absurd (omega (arith, some))
lines_last text (c ∷ cs) h some = ap ended h

-- A piece before a line feed is a line.
pub lines_first : (text front rest line : List ℕ) → pieces feed text ≡ front ∷ pieces feed rest → line ≡ without_return front → lines_of text ≡ line ∷ lines_of rest
lines_first text front rest line h e = ap ended h ∙ rw (pieces_is feed rest, e) refl

-- A map with one more name finds what the list with that name finds.
pub found_more : (m n : BTreeMap (Bor (List ℕ)) ℕ) (names : List (List ℕ × ℕ)) (name : List ℕ) (unit : ℕ)
    → UpdatesBy (λ x y. slice_cmp nat_cmp x.now y.now) (λ k. slice_cmp nat_cmp name k.now) m n (Some unit) → Finds m names → Finds n ((name, unit) ∷ names)
found_more m n names name unit u h q = btree_map_updates_str name m n (Some unit) u q ∙ rw (h q) refl

-- A new name is stored.
pub name_put : (kept : Reading) (n : BTreeMap (Bor (List ℕ)) ℕ) (r : Read) (name : List ℕ) → Keeps kept r → is_some (get_by (λ k. slice_cmp nat_cmp name k.now) kept.names) ≡ false
    → UpdatesBy (λ x y. slice_cmp nat_cmp x.now y.now) (λ k. slice_cmp nat_cmp name k.now) kept.names n (Some kept.units)
    → (x : Read) × (with_name r (Some name) ≡ Ok x) × Keeps (record kept { names = n }) x
name_put kept n r name k absent u =
    let free : is_some (defined r.names name) ≡ false = ap is_some (sym (k.names name)) ∙ absent in
    (record { names = (name, kept.units) ∷ r.names; sources = r.sources }, rw (free, k.units) refl, record { units = k.units; sources = k.sources; few = k.few; names = found_more kept.names n r.names name kept.units u k.names })

-- An instruction takes at least one unit.
source_some : (s : Source) → 1 ≤ source_units s
source_some (Plain insn) = units_some insn
source_some (Jump goal) = omega arith
source_some (LongJump goal) = omega arith
source_some (Branch width condition dst operand goal) = omega arith

-- So there are no more instructions than units.
length-placed : (ps : List Placed) → length ps ≤ sum_by placed_units ps
length-placed [] = omega arith
length-placed (p ∷ ps) = omega (arith, sum_by-cons placed_units p ps, source_some p.source, length-placed ps)

-- A new instruction is stored if there is room.
pub source_put : (kept : Reading) (sources : Vec Kept Global) (r : Read) (p : Placed) (units : ℕ) → Keeps kept r → units ≡ placed_units p → kept.units + units ≤ 4096 → map kept_view sources.items ≡ map kept_view kept.sources.items ++ p ∷ []
    → Keeps (record kept { units = kept.units + units; sources = sources }) (record r { sources = r.sources ++ p ∷ [] })
source_put kept sources r p units k taken room more =
    let all : map kept_view sources.items ≡ r.sources ++ p ∷ [] = more ∙ ap (λ s. s ++ p ∷ []) (k.sources (omega arith)) in
    let counted : kept.units + units ≡ sum_by placed_units (r.sources ++ p ∷ []) = omega (arith, k.units, sum_by_push placed_units r.sources p) in
    let long : length sources.items ≡ length (r.sources ++ p ∷ []) = sym (length-map sources.items kept_view) ∙ ap length all in
    record { units = counted; sources = λ few. all; few = omega (arith, length-placed (r.sources ++ p ∷ [])); names = k.names }

-- The units of what is stored are those of what was read.
pub sum_by-kept : (sources : List Kept) → sum_by placed_units (map kept_view sources) ≡ units_kept sources
sum_by-kept [] = refl
sum_by-kept (k ∷ ks) = sum_by-cons placed_units (kept_view k) (map kept_view ks) ∙ ap (λ n. placed_units (kept_view k) + n) (sum_by-kept ks) ∙ sym (sum_by-cons (λ x. placed_units (kept_view x)) k ks)

pub units_are : (kept : Reading) (r : Read) → Keeps kept r → kept.units ≤ 4096 → kept.units ≡ units_kept kept.sources.items
units_are kept r k few = k.units ∙ ap (λ s. sum_by placed_units s) (sym (k.sources few)) ∙ sum_by-kept kept.sources.items
