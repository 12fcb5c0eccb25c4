-- Where a jump to a name leads.
use Rattle.std.proofs.Common.{◌≡◌, ℕ, ℤ, ◌+◌, ◌^◌, ◌⊎◌, inl, inr, Bool, true, false, cond, List, [], ◌∷◌, ◌++◌, length, refl, sym, ap, subst, ◌∙◌, arith, append_assoc, append-nil}
use Rattle.std.specs.Prelude.{Option, Some, None, Result, Ok, Err, ◌&&◌, nat_lt, nat_le, is_some, slice_get}
use Rattle.std.specs.Option.{ok_or}
use Rattle.std.specs.List.{sum_by}
use Rattle.std.specs.Str.{bytes_eq}
use Rattle.std.proofs.lemmas.List.Sums.{sum_by-cons}
use Rattle.std.proofs.lemmas.Slice.Eq.{bytes_eq-Decides}
use Rattle.insn.specs.declared.insn.Insn.{Insn}
use Rattle.insn.specs.declared.insn.Insn.TheVariants as insns
use Rattle.insn.specs.Insn.{units_of}
use Rattle.insn.specs.Program.{slots_of, joined, instruction_at}
use Rattle.insn.proofs.SlotLemmas.{slots_of-append, length-slots_of-cons}
use Rattle.asm.specs.declared.fault.AsmFault.{AsmFault}
use Rattle.asm.specs.declared.fault.AsmFault.TheVariants as faults
use Rattle.asm.specs.declared.fault.AsmError.{AsmError}
use Rattle.asm.specs.Faults.{◌>>=◌}
use Rattle.asm.specs.Number.{signed_within}
use Rattle.asm.specs.Operand.{Goal, Away, Named}
use Rattle.asm.specs.Statement.{Source, Plain, Jump, LongJump, Branch, statement_of}
use Rattle.asm.specs.Line.{Outline, outline_of}
use Rattle.asm.specs.Distance.{defined, distance_of}
use Rattle.asm.specs.Program.{Placed, Read, placed_units, source_units, units_in, with_name, with_source, with_words, with_line, line_read, read_on, nothing, insn_of, insns_on, program_in, lines_of, said}
use Rattle.asm.proofs.DistanceLaws.{Reaches, reaches}
use Rattle.asm.specs.Names.{name_in, goal_name, distance_in, IsDefinedAt, JumpsLeadToNames}
use Rattle.asm.proofs.SaidLemmas.{bound, had, held, free}

-- ---- where a result comes from

abbrev fine : {A E : Type 0} → A → Result A E
fine a = Ok a

same_ok : {A E : Type 0} (a b : A) → fine {E = E} a ≡ Ok b → a ≡ b
same_ok a b e = cc

if_ok : {A E : Type 0} (t : Bool) (r : Result A E) (e : E) (a : A) → cond t r (Err e) ≡ Ok a → r ≡ Ok a
if_ok true r e a h = h
if_ok false r e a h = absurd cc

-- ---- jumps

-- A jump to a name, with its distance.
pub record Jumps (names : List (List ℕ × ℕ)) (unit : ℕ) (name : List ℕ) (insn : Insn) : Type 0 where
  pub distance : ℤ
  pub far : distance_in insn ≡ Some distance
  pub reaches : Reaches names unit name distance

abbrev some_name : List ℕ → Option (List ℕ)
some_name name = Some name

name_is : (a b : List ℕ) → some_name a ≡ some_name b → a ≡ b
name_is a b e = cc

ranged : (limit : ℕ) (names : List (List ℕ × ℕ)) (unit : ℕ) (goal : Goal) (name : List ℕ) (make : ℤ → Insn) (insn : Insn) → name_in goal ≡ Some name → ((z : ℤ) → distance_in (make z) ≡ Some z)
    → (ok_or (distance_of names unit goal) faults.Label >>= λ n. ok_or (signed_within limit n) faults.Range >>= λ distance. Ok (make distance)) ≡ Ok insn → Jumps names unit name insn
ranged limit names unit (Away n) name make insn e far h = absurd cc
ranged limit names unit (Named own) name make insn e far h =
    let d = had (distance_of names unit (Named own)) faults.Label (λ n. ok_or (signed_within limit n) faults.Range >>= λ distance. Ok (make distance)) insn h in
    let z = had (signed_within limit d.0) faults.Range (λ distance. Ok (make distance)) insn d.2 in
    let made : make z.0 ≡ insn = same_ok (make z.0) insn z.2 in
    record {
      distance = z.0;
      far = subst (λ i. distance_in i ≡ Some z.0) made (far z.0);
      reaches = subst (λ n. Reaches names unit n z.0) (name_is own name e) (reaches limit names unit own d.0 z.0 d.1 z.1);
    }

jumps_far : (names : List (List ℕ × ℕ)) (unit : ℕ) (source : Source) (name : List ℕ) (insn : Insn) → goal_name source ≡ Some name → insn_of names unit source ≡ Ok insn → Jumps names unit name insn
jumps_far names unit (Plain plain) name insn e h = absurd cc
jumps_far names unit (Jump goal) name insn e h = ranged (2 ^ 15) names unit goal name insns.Jump insn e (λ z. refl) h
jumps_far names unit (LongJump goal) name insn e h = ranged (2 ^ 31) names unit goal name insns.LongJump insn e (λ z. refl) h
jumps_far names unit (Branch width condition dst operand goal) name insn e h = ranged (2 ^ 15) names unit goal name (insns.Branch width condition dst operand) insn e (λ z. refl) h

-- An instruction takes the units of its statement.
jump_units : (limit : ℕ) (names : List (List ℕ × ℕ)) (unit : ℕ) (goal : Goal) (make : ℤ → Insn) (insn : Insn) → ((z : ℤ) → units_of (make z) ≡ 1)
    → (ok_or (distance_of names unit goal) faults.Label >>= λ n. ok_or (signed_within limit n) faults.Range >>= λ distance. Ok (make distance)) ≡ Ok insn → units_of insn ≡ 1
jump_units limit names unit goal make insn one h =
    let d = had (distance_of names unit goal) faults.Label (λ n. ok_or (signed_within limit n) faults.Range >>= λ distance. Ok (make distance)) insn h in
    let z = had (signed_within limit d.0) faults.Range (λ distance. Ok (make distance)) insn d.2 in
    ap units_of (sym (same_ok (make z.0) insn z.2)) ∙ one z.0

insn_units : (names : List (List ℕ × ℕ)) (unit : ℕ) (source : Source) (insn : Insn) → insn_of names unit source ≡ Ok insn → units_of insn ≡ source_units source
insn_units names unit (Plain plain) insn h = ap units_of (sym (same_ok plain insn h))
insn_units names unit (Jump goal) insn h = jump_units (2 ^ 15) names unit goal insns.Jump insn (λ z. refl) h
insn_units names unit (LongJump goal) insn h = jump_units (2 ^ 31) names unit goal insns.LongJump insn (λ z. refl) h
insn_units names unit (Branch width condition dst operand goal) insn h = jump_units (2 ^ 15) names unit goal (insns.Branch width condition dst operand) insn (λ z. refl) h

-- ---- the instructions

-- The finished instructions come first.
done_first : (names : List (List ℕ × ℕ)) (ps : List Placed) (unit : ℕ) (done program : List Insn) → insns_on names unit done ps ≡ Ok program → (rest : List Insn) × (program ≡ done ++ rest)
done_first names [] unit done program h = ([], sym (append-nil done ∙ same_ok done program h))
done_first names (p ∷ ps) unit done program h =
    let i = held p.line (insn_of names unit p.source) (λ insn. insns_on names (unit + placed_units p) (done ++ insn ∷ []) ps) program h in
    let more = done_first names ps (unit + placed_units p) (done ++ i.0 ∷ []) program i.2 in
    (i.0 ∷ more.0, more.1 ∙ append_assoc done (i.0 ∷ []) more.0)

-- An instruction comes after those before it.
record Stands (names : List (List ℕ × ℕ)) (unit : ℕ) (done : List Insn) (front : List Placed) (p : Placed) (program : List Insn) : Type 0 where
  before : List Insn
  insn : Insn
  rest : List Insn
  parts : program ≡ done ++ (before ++ insn ∷ rest)
  counted : length (slots_of before) ≡ sum_by placed_units front
  is : insn_of names (unit + sum_by placed_units front) p.source ≡ Ok insn

stands : (names : List (List ℕ × ℕ)) (front : List Placed) (p : Placed) (back : List Placed) (unit : ℕ) (done program : List Insn) → insns_on names unit done (front ++ p ∷ back) ≡ Ok program → Stands names unit done front p program
stands names [] p back unit done program h =
    let i = held p.line (insn_of names unit p.source) (λ insn. insns_on names (unit + placed_units p) (done ++ insn ∷ []) back) program h in
    let more = done_first names back (unit + placed_units p) (done ++ i.0 ∷ []) program i.2 in
    let here : unit + 0 ≡ unit = omega arith in
    record {
      before = [];
      insn = i.0;
      rest = more.0;
      parts = more.1 ∙ append_assoc done (i.0 ∷ []) more.0;
      counted = refl;
      is = ap (λ u. insn_of names u p.source) here ∙ i.1;
    }
stands names (q ∷ front) p back unit done program h =
    let i = held q.line (insn_of names unit q.source) (λ insn. insns_on names (unit + placed_units q) (done ++ insn ∷ []) (front ++ p ∷ back)) program h in
    let more = stands names front p back (unit + placed_units q) (done ++ i.0 ∷ []) program i.2 in
    let units : units_of i.0 ≡ placed_units q = insn_units names unit q.source i.0 i.1 in
    let slots : length (slots_of (i.0 ∷ more.before)) ≡ units_of i.0 + length (slots_of more.before) = length-slots_of-cons i.0 more.before in
    let sums : sum_by placed_units (q ∷ front) ≡ placed_units q + sum_by placed_units front = sum_by-cons placed_units q front in
    let at : unit + sum_by placed_units (q ∷ front) ≡ unit + placed_units q + sum_by placed_units front = omega (arith, sums) in
    record {
      before = i.0 ∷ more.before;
      insn = more.insn;
      rest = more.rest;
      parts = more.parts ∙ append_assoc done (i.0 ∷ []) (more.before ++ more.insn ∷ more.rest);
      counted = omega (arith, slots, sums, units, more.counted);
      is = ap (λ u. insn_of names u p.source) at ∙ more.is;
    }

at_length : {A : Type 0} (xs : List A) (y : A) (ys : List A) → slice_get (xs ++ y ∷ ys) (length xs) ≡ Some y
at_length [] y ys = refl
at_length (x ∷ xs) y ys = at_length xs y ys

found_there : (before : List Insn) (insn : Insn) (rest : List Insn) (unit : ℕ) → length (slots_of before) ≡ unit → instruction_at (before ++ insn ∷ rest) unit ≡ Some insn
found_there before insn rest unit e =
    rw (← e) (ap (λ slots. joined (slice_get slots (length (slots_of before)))) (slots_of-append before (insn ∷ rest)) ∙ ap joined (at_length (slots_of before) (Some insn) _))

-- ---- the names

-- A line that defines the name, after what was read.
record Found (r : Read) (start : ℕ) (lines : List (List ℕ)) (name : List ℕ) (unit : ℕ) : Type 0 where
  front : List (List ℕ)
  line : List ℕ
  back : List (List ℕ)
  parts : lines ≡ front ++ line ∷ back
  outline : Outline
  outlined : outline_of line ≡ Some outline
  named : outline.name ≡ Some name
  before : Read
  faultless : read_on r start front ≡ Ok before
  counted : unit ≡ units_in before

-- The line's own name, or one that was defined before.
record Own (r : Read) (line name : List ℕ) (unit : ℕ) : Type 0 where
  outline : Outline
  outlined : outline_of line ≡ Some outline
  named : outline.name ≡ Some name
  counted : unit ≡ units_in r

here_or : (t : Bool) (own name : List ℕ) (here unit : ℕ) (rest : Option ℕ) → (t ≡ true → own ≡ name) → cond t (Some here) rest ≡ Some unit → (rest ≡ Some unit) ⊎ ((own ≡ name) × (unit ≡ here))
here_or true own name here unit rest same e = let is : here ≡ unit = cc in inr (same refl, sym is)
here_or false own name here unit rest same e = inl e

source_names : (n next : Read) (line : ℕ) (said : Option Source) → with_source n line said ≡ next → next.names ≡ n.names
source_names n next line None e = ap (λ (r : Read). r.names) (sym e)
source_names n next line (Some source) e = ap (λ (r : Read). r.names) (sym e)

words_names : (n next : Read) (line : ℕ) (words : List (List ℕ)) → with_words n line words ≡ Ok next → next.names ≡ n.names
unfolding with_words
words_names n next line words h =
    let s = bound (statement_of words) (λ statement. Ok (with_source n line statement)) next h in
    source_names n next line s.0 (same_ok (with_source n line s.0) next s.2)

name_own : (r n : Read) (line : List ℕ) (o : Outline) (given : Option (List ℕ)) (name : List ℕ) (unit : ℕ) → outline_of line ≡ Some o → o.name ≡ given → with_name r given ≡ Ok n → defined n.names name ≡ Some unit
    → (defined r.names name ≡ Some unit) ⊎ Own r line name unit
name_own r n line o None name unit out same h e = let is : r ≡ n = same_ok {E = AsmFault} r n h in inl (ap (λ (x : Read). defined x.names name) is ∙ e)
name_own r n line o (Some own) name unit out same h e =
    let is : record r { names = (own, units_in r) ∷ r.names } ≡ n = free (is_some (defined r.names own)) (record r { names = (own, units_in r) ∷ r.names }) n h in
    let f : cond (bytes_eq own name) (Some (units_in r)) (defined r.names name) ≡ Some unit = ap (λ (x : Read). defined x.names name) is ∙ e in
    elim (here_or (bytes_eq own name) own name (units_in r) unit (defined r.names name) (bytes_eq-Decides own name).0 f) [
      | inl earlier ↦ inl earlier
      | inr here ↦ inr (record { outline = o; outlined = out; named = same ∙ ap some_name here.0; counted = here.1 })
    ]

line_own : (r next : Read) (number : ℕ) (line name : List ℕ) (unit : ℕ) → line_read r number line ≡ Ok next → defined next.names name ≡ Some unit → (defined r.names name ≡ Some unit) ⊎ Own r line name unit
unfolding line_read with_line
line_own r next number line name unit h e =
    let o = had (outline_of line) faults.Line (λ o. with_line r number o) next h in
    let n = bound (with_name r o.0.name) (λ n. with_words n number o.0.words) next o.2 in
    let names : next.names ≡ n.0.names = words_names n.0 next number o.0.words n.2 in
    name_own r n.0 line o.0 o.0.name name unit o.1 refl n.1 (ap (λ l. defined l name) (sym names) ∙ e)

found : (lines : List (List ℕ)) (r last : Read) (start : ℕ) (name : List ℕ) (unit : ℕ) → read_on r start lines ≡ Ok last → defined last.names name ≡ Some unit → (defined r.names name ≡ Some unit) ⊎ Found r start lines name unit
found [] r last start name unit h e = let is : r ≡ last = same_ok {E = AsmError} r last h in inl (ap (λ (x : Read). defined x.names name) is ∙ e)
found (line ∷ lines) r last start name unit h e =
    let next = held start (line_read r start line) (λ next. read_on next (start + 1) lines) last h in
    elim (found lines next.0 last (start + 1) name unit next.2 e) [
      | inr later ↦ inr (record {
        front = line ∷ later.front;
        line = later.line;
        back = later.back;
        parts = ap (λ l. line ∷ l) later.parts;
        outline = later.outline;
        outlined = later.outlined;
        named = later.named;
        before = later.before;
        faultless = rw next.1 later.faultless;
        counted = later.counted;
      })
      | inl earlier ↦ elim (line_own r next.0 start line name unit next.1 earlier) [
        | inl before ↦ inl before
        | inr own ↦ inr (record {
          front = [];
          line = line;
          back = lines;
          parts = refl;
          outline = own.outline;
          outlined = own.outlined;
          named = own.named;
          before = r;
          faultless = refl;
          counted = own.counted;
        })
      ]
    ]

is_defined : (text name : List ℕ) (unit : ℕ) → (defined [] name ≡ Some unit) ⊎ Found nothing 1 (lines_of text) name unit → IsDefinedAt (lines_of text) name unit
is_defined text name unit (inl none) = absurd cc
is_defined text name unit (inr f) = record {
  front = f.front;
  line = f.line;
  back = f.back;
  parts = f.parts;
  outline = f.outline;
  outlined = f.outlined;
  named = f.named;
  before = f.before;
  faultless = f.faultless;
  counted = f.counted;
}

pub jumps_lead : JumpsLeadToNames
unfolding said
jumps_lead text program read front p back name says reads parts goal =
    let all : program_in (length (lines_of text)) read ≡ Ok program = ap (λ (o : Result Read AsmError). o >>= λ r. program_in (length (lines_of text)) r) (sym reads) ∙ says in
    let on : insns_on read.names 0 [] read.sources ≡ Ok program = if_ok (nat_lt 0 (units_in read) && nat_le (units_in read) 4096) (insns_on read.names 0 [] read.sources) _ program all in
    let at = stands read.names front p back 0 [] program (ap (insns_on read.names 0 []) (sym parts) ∙ on) in
    let behind_none : sum_by placed_units front ≡ 0 + sum_by placed_units front = omega arith in
    let resolved : insn_of read.names (sum_by placed_units front) p.source ≡ Ok at.insn = ap (λ u. insn_of read.names u p.source) behind_none ∙ at.is in
    let jump = jumps_far read.names (sum_by placed_units front) p.source name at.insn goal resolved in
    record {
      jump = at.insn;
      stands = ap (λ (is : List Insn). instruction_at is (sum_by placed_units front)) at.parts ∙ found_there at.before at.insn at.rest (sum_by placed_units front) at.counted;
      distance = jump.distance;
      far = jump.far;
      target = jump.reaches.target;
      defined = is_defined text name jump.reaches.target (found (lines_of text) nothing read 1 name jump.reaches.target reads jump.reaches.there);
      lands = jump.reaches.lands;
    }
