-- Each move of the post keeps its rule.
use Rattle.std.proofs.Common.{◌≡◌, ◌≢◌, ℕ, zero, suc, ◌+◌, ◌<◌, true, false, true≢false, cond, ◌==◌, List, [], ◌∷◌, ◌++◌, length, get_or, set, Option, Some, None, sym, refl, ap, ◌∙◌, subst, ◌⊎◌, inl, inr, ⊎_elim, append_assoc, append-nil, lt_of_not-le, length-append, arith}
use Rattle.std.proofs.lemmas.Bool.{eq-eqb}
use Rattle.std.proofs.lemmas.Bool.Decides.{eqb_tells}
use Rattle.std.proofs.Math.ListN.{get_or-append}
use Rattle.std.proofs.Math.Seq.{get_or-append_seam}
use Rattle.atomic_table.specs.Seated.{TableId}
use mathlib.Core.Option.{some, some-ne-none, some-injective}
use lib.ListN.{get_elem?}
use Rattle.crossbeam_queue.specs.Fifo.{Pushes, Pops, Forks, Merges, Learns}
use Rattle.crossbeam_queue.proofs.Lists.{at_set}
use Rattle.round.specs.Letters.{Letter}
use Rattle.threads.specs.declared.knowledge.Posted.{Posted}
use Rattle.threads.specs.declared.knowledge.Known.{Known}
use Rattle.threads.specs.Delivery.{letters_of, AreDelivered, posted}
use Rattle.threads.specs.Rule.{poster, collector, spent, AreBack, Fits, Delivers, DeliversOnly}
use Rattle.std.specs.Prelude.{All as Each}
use Rattle.std.proofs.lemmas.List.Elements.{All-append, All-nil, All-cons, All-head, All-tail}
use Rattle.threads.specs.Seen.{PosterSeen, poster_seen}

eq_same : (g : ℕ) → (g == g) ≡ true
eq_same g = eq-eqb g g refl

eq_other : (h g : ℕ) → h ≢ g → (h == g) ≡ false
eq_other h g apart = ⊎_elim (λ x. absurd (apart x.1)) (λ x. x.0) (eqb_tells h g)

put : ℕ → Option ℕ → (ℕ → Option ℕ) → ℕ → Option ℕ
put g pass seat h = cond (h == g) pass (seat h)

put_same : (g : ℕ) (pass : Option ℕ) (seat : ℕ → Option ℕ) → put g pass seat g ≡ pass
unfolding put
put_same g pass seat = rw (eq_same g)

put_other : (g h : ℕ) (pass : Option ℕ) (seat : ℕ → Option ℕ) → h ≢ g → put g pass seat h ≡ seat h
unfolding put
put_other g h pass seat apart = rw (eq_other h g apart)

of_same : (g : ℕ) (ls : List Letter) (x : Letter) → x.general ≡ g → letters_of g (ls ++ x ∷ []) ≡ letters_of g ls ++ x ∷ []
of_same g [] x e = rw (eq-eqb x.general g e)
of_same g (l ∷ ls) x e = ⊎_elim (λ (b : (l.general == g ≡ true) × (l.general ≡ g)). rw (b.0, of_same g ls x e)) (λ (b : (l.general == g ≡ false) × (l.general ≢ g)). rw (b.0, of_same g ls x e)) (eqb_tells l.general g)

of_other : (g : ℕ) (ls : List Letter) (x : Letter) → x.general ≢ g → letters_of g (ls ++ x ∷ []) ≡ letters_of g ls
of_other g [] x e = rw (eq_other x.general g e)
of_other g (l ∷ ls) x e = ⊎_elim (λ (b : (l.general == g ≡ true) × (l.general ≡ g)). rw (b.0, of_other g ls x e)) (λ (b : (l.general == g ≡ false) × (l.general ≢ g)). rw (b.0, of_other g ls x e)) (eqb_tells l.general g)

taken_seat : (seat : ℕ → Option ℕ) (g h pass : ℕ) → seat g ≡ None → seat h ≡ Some pass → h ≢ g
taken_seat seat g h pass e f same = let k : Some pass ≡ None = sym f ∙ ap seat same ∙ e in cc

abbrev All : (ℕ → Known → Type 0) → List Known → Type 0
All F views = (pass : ℕ) (v : Known) → get_elem? views pass ≡ some v → F pass v

all_set : (F : ℕ → Known → Type 0) (views : List Known) (pass : ℕ) (w : Known) → F pass w → ((j : ℕ) (u : Known) → j ≢ pass → get_elem? views j ≡ some u → F j u) → All F (set views pass w)
all_set F views pass w mine others j u e = ⊎_elim (λ (x : (j ≡ pass) × (w ≡ u)). subst (λ (y : ℕ × Known). F y.0 y.1) (λ i. (sym x.0 i, x.1 i)) mine)
    (λ (x : (j ≢ pass) × (get_elem? views j ≡ some u)). others j u x.0 x.1) (at_set views pass j w u e)

at_snoc' : (l : List Known) (a b : Known) (j : ℕ) → get_elem? (l ++ a ∷ []) j ≡ some b → (get_elem? l j ≡ some b) ⊎ ((j ≡ length l) × (a ≡ b))
at_snoc' [] a b zero e = inr (refl, some-injective a b e)
at_snoc' [] a b (suc j) e = absurd (some-ne-none b (sym e))
at_snoc' (x ∷ xs) a b zero e = inl e
at_snoc' (x ∷ xs) a b (suc j) e = ⊎_elim (λ h. inl h) (λ h. inr (ap suc h.0, h.1)) (at_snoc' xs a b j e)

begins : Delivers [] (collector [] 0 [] ∷ [])
begins =
    let seat : ℕ → Option ℕ = λ g. None in (
      0,
      seat,
      [],
      λ pass v e. ⊎_elim (λ h. absurd (some-ne-none v (sym h)))
          (λ (h : (pass ≡ 0) × (collector [] 0 [] ≡ v)). subst (λ (y : ℕ × Known). Fits 0 seat [] [] y.0 y.1) (λ i. (sym h.0 i, h.1 i)) ((λ p. absurd (true≢false (sym p))), λ p. (refl, refl, (λ g le. (refl, refl)), tt)))
          (at_snoc' [] (collector [] 0 []) v pass e),
    )

-- A letter of a general who has a poster does not change the letters of a general who has none.
still : (seat : ℕ → Option ℕ) (came : List Letter) (x : Letter) (g pass : ℕ) → seat g ≡ None → seat x.general ≡ Some pass → letters_of g (came ++ x ∷ []) ≡ letters_of g came
still seat came x g pass e f = of_other g came x (taken_seat seat g x.general pass e f)

back_still : (made : ℕ) (seat : ℕ → Option ℕ) (came : List Letter) (x : Letter) (pass : ℕ) (back : List Posted) → seat x.general ≡ Some pass → AreBack made seat came back → AreBack made seat (came ++ x ∷ []) back
back_still made seat came x pass [] f h = tt
back_still made seat came x pass (p ∷ back) f h =
    (((h.0).0, (h.0).1, (h.0).2 ∙ sym (still seat came x p.general pass (h.0).1 f)), back_still made seat came x pass back f h.1)

posts : (n pass : ℕ) (v : Known) (x : Letter) → v.posts ≡ true → x.general ≡ v.general → Pushes Delivers n pass v x (λ w. w ≡ poster v.general (v.letters ++ x ∷ []))
posts n pass v x may by items views room h at =
    let w : Known = poster v.general (v.letters ++ x ∷ []) in
    let seat = h.1 in let came : List Letter = h.2 ++ items in
    let mine = (h.3 pass v at).0 may in
    let seated : seat x.general ≡ Some pass = ap seat by ∙ mine.0 in
    let all : All (Fits h.0 seat h.2 (came ++ x ∷ [])) (set views pass w) = all_set (Fits h.0 seat h.2 (came ++ x ∷ [])) views pass w
    ((λ p. (mine.0, ap (λ l. l ++ x ∷ []) mine.1 ∙ sym (of_same v.general came x by))), λ p. absurd (true≢false (sym p)))
    (λ j u other e. (
      (λ p.
          let their = (h.3 j u e).0 p in
          let apart : x.general ≢ u.general = (λ same. let k : Some pass ≡ Some j = sym seated ∙ ap seat same ∙ their.0 in other (let s : pass ≡ j = cc in sym s)) in
          (their.0, their.1 ∙ sym (of_other u.general came x apart))),
      λ p.
          let their = (h.3 j u e).1 p in
          (their.0, their.1, (λ g le. ((their.2 g le).0, still seat came x g pass (their.2 g le).0 seated ∙ (their.2 g le).1)), back_still u.made seat came x pass u.back seated their.3),
    )) in
    (w, (h.0, seat, h.2, (let P : List Letter → Type 0 = λ c. All (Fits h.0 seat h.2 c) (set views pass w) in subst P (append_assoc h.2 items (x ∷ [])) all)), refl)

takes : (pass : ℕ) (v : Known) → v.takes ≡ true → Pops Delivers pass v (λ x w. w ≡ collector (v.letters ++ x ∷ []) v.made v.back)
takes pass v may x items views h at =
    let w : Known = collector (v.letters ++ x ∷ []) v.made v.back in
    let seat = h.1 in let taken : List Letter = h.2 ++ x ∷ [] in let came : List Letter = h.2 ++ x ∷ items in
    let mine = (h.3 pass v at).1 may in
    let all : All (Fits h.0 seat taken came) (set views pass w) = all_set (Fits h.0 seat taken came) views pass w
    ((λ p. absurd (true≢false (sym p))), λ p. (mine.0, ap (λ l. l ++ x ∷ []) mine.1, mine.2, mine.3))
    (λ j u other e. ((h.3 j u e).0, λ p. absurd (other (((h.3 j u e).1 p).0 ∙ sym mine.0)))) in
    (w, (h.0, seat, taken, (let P : List Letter → Type 0 = λ c. All (Fits h.0 seat taken c) (set views pass w) in subst P (sym (append_assoc h.2 (x ∷ []) items)) all)), refl)

back_more : (made n : ℕ) (seat : ℕ → Option ℕ) (came : List Letter) (back : List Posted) → AreBack made seat came back → AreBack (made + 1) (put made (Some n) seat) came back
back_more made n seat came [] h = tt
back_more made n seat came (p ∷ back) h =
    let lt = (h.0).0 in
    ((omega arith, put_other made p.general (Some n) seat (λ e. absurd (omega arith)) ∙ (h.0).1, (h.0).2), back_more made n seat came back h.1)

-- The collector makes the next general's poster.
hires : (pass : ℕ) (v : Known) → v.takes ≡ true → Forks Delivers pass v (collector v.letters (v.made + 1) v.back) (poster v.made [])
hires pass v may items views h at =
    let l : Known = collector v.letters (v.made + 1) v.back in let r : Known = poster v.made [] in
    let seat = h.1 in let came : List Letter = h.2 ++ items in let vs : List Known = set views pass l in
    let n = length vs in let seat' : ℕ → Option ℕ = put v.made (Some n) seat in
    let mine = (h.3 pass v at).1 may in
    let free = mine.2 v.made (omega arith) in
    let old : All (Fits h.0 seat' h.2 came) vs = all_set (Fits h.0 seat' h.2 came) views pass l
    ((λ p. absurd (true≢false (sym p))), λ p. (mine.0, mine.1, (λ g le. (put_other v.made g (Some n) seat (λ e. absurd (omega arith)) ∙ (mine.2 g (omega arith)).0, (mine.2 g (omega arith)).1)), back_more v.made n seat came v.back mine.3))
    (λ j u other e. (
      (λ p. let their = (h.3 j u e).0 p in (put_other v.made u.general (Some n) seat (taken_seat seat v.made u.general j free.0 their.0) ∙ their.0, their.1)),
      λ p. absurd (other (((h.3 j u e).1 p).0 ∙ sym mine.0)),
    )) in (
      h.0,
      seat',
      h.2,
      λ j u e. ⊎_elim (λ x. old j u x)
          (λ (x : (j ≡ n) × (r ≡ u)). subst (λ (y : ℕ × Known). Fits h.0 seat' h.2 came y.0 y.1) (λ i. (sym x.0 i, x.1 i)) ((λ p. (put_same v.made (Some n) seat, sym free.1)), λ p. absurd (true≢false (sym p))))
          (at_snoc' vs r u j e),
    )

back_gone : (made g : ℕ) (seat : ℕ → Option ℕ) (came : List Letter) (back : List Posted) → AreBack made seat came back → AreBack made (put g None seat) came back
back_gone made g seat came [] h = tt
back_gone made g seat came (p ∷ back) h =
    (((h.0).0, ⊎_elim (λ (x : (p.general == g ≡ true) × (p.general ≡ g)). ap (put g None seat) x.1 ∙ put_same g None seat) (λ (x : (p.general == g ≡ false) × (p.general ≢ g)). put_other g p.general None seat x.1 ∙ (h.0).1) (eqb_tells p.general g), (h.0).2), back_gone made g seat came back h.1)

back_snoc : (made : ℕ) (seat : ℕ → Option ℕ) (came : List Letter) (back : List Posted) (p : Posted) → AreBack made seat came back → (p.general < made) × (seat p.general ≡ None) × (p.letters ≡ letters_of p.general came) → AreBack made seat came (back ++ p ∷ [])
back_snoc made seat came [] p h e = (e, tt)
back_snoc made seat came (q ∷ back) p h e = (h.0, back_snoc made seat came back p h.1 e)

-- A poster is returned to the collector.
returns : (pass : ℕ) (v : Known) (other : ℕ) (u : Known) → v.takes ≡ true → u.posts ≡ true → Merges Delivers pass v other u (collector v.letters v.made (posted u.general u.letters ∷ v.back)) spent
returns pass v other u may posts' items views h at two at' =
    let p = posted u.general u.letters in
    let both : Known = collector v.letters v.made (p ∷ v.back) in
    let seat = h.1 in let came : List Letter = h.2 ++ items in
    let mine = (h.3 pass v at).1 may in
    let vs : List Known = set views pass both in
    let was : get_elem? views other ≡ some u = ⊎_elim (λ x. absurd (two x.0)) (λ x. x.1) (at_set views pass other both u at') in
    let their = (h.3 other u was).0 posts' in
    let seat' : ℕ → Option ℕ = put u.general None seat in
    let below : u.general < v.made = lt_of_not-le (λ le. taken_seat seat u.general u.general other (mine.2 u.general le).0 their.0 refl) in
    let Now : ℕ → Known → Type 0 = λ j y. j ≢ other → Fits h.0 seat' h.2 came j y in
    let now : All Now vs = all_set Now views pass both
    (λ apart. (
      (λ q. absurd (true≢false (sym q))),
      λ q. (
        mine.0,
        mine.1,
        (λ g le. (put_other u.general g None seat (λ e. absurd (omega arith)) ∙ (mine.2 g le).0, (mine.2 g le).1)),
        ((below, put_same u.general None seat, their.1), back_gone v.made u.general seat came v.back mine.3),
      ),
    ))
    (λ j y away e apart. (
      (λ q. let ys = (h.3 j y e).0 q in
          let ne : y.general ≢ u.general = (λ same. let k : Some j ≡ Some other = sym ys.0 ∙ ap seat same ∙ their.0 in apart (let s : j ≡ other = cc in s)) in
          (put_other u.general y.general None seat ne ∙ ys.0, ys.1)),
      λ q. absurd (away (((h.3 j y e).1 q).0 ∙ sym mine.0)),
    )) in
    (h.0, seat', h.2, all_set (Fits h.0 seat' h.2 came) vs other spent ((λ q. absurd (true≢false (sym q))), λ q. absurd (true≢false (sym q))) (λ j y apart e. now j y e apart))

came_of : (made : ℕ) (seat : ℕ → Option ℕ) (came : List Letter) (back : List Posted) → AreBack made seat came back → AreDelivered came back
came_of made seat came [] h = tt
came_of made seat came (p ∷ back) h = ((h.0).2, came_of made seat came back h.1)

-- What the collector knows about the posters that were returned to it.
learns : (pass : ℕ) (v : Known) → v.takes ≡ true → Learns Delivers pass v (λ items. AreDelivered (v.letters ++ items) v.back)
learns pass v may items views h at =
    let mine = (h.3 pass v at).1 may in
    let P : List Letter → Type 0 = λ t. AreDelivered (t ++ items) v.back in
    subst P (sym mine.1) (came_of v.made h.1 (h.2 ++ items) v.back mine.3)

pub told : (came : List Letter) (v : Known) → ((items : List Letter) × (length items ≡ 0) × AreDelivered (came ++ items) v.back) → AreDelivered came v.back
told came v ([], e, h) = let P : List Letter → Type 0 = λ c. AreDelivered c v.back in subst P (append-nil came) h
told came v (x ∷ items, e, h) = absurd (omega arith)

pub each_more : (id : TableId) (ps : List PosterSeen) (new : PosterSeen) → new ≡ poster_seen id (length ps) []
    → ((g : ℕ) (d : PosterSeen) → g < length ps → get_or ps g d ≡ poster_seen id g [])
    → (g : ℕ) (d : PosterSeen) → g < length (ps ++ new ∷ []) → get_or (ps ++ new ∷ []) g d ≡ poster_seen id g []
each_more id ps new is each g d lt =
    ⊎_elim (λ (x : (g == length ps ≡ true) × (g ≡ length ps)). ap (λ n. get_or (ps ++ new ∷ []) n d) x.1 ∙ get_or-append_seam ps new [] d ∙ is ∙ ap (λ n. poster_seen id n []) (sym x.1))
    (λ (x : (g == length ps ≡ false) × (g ≢ length ps)). let ne = x.1 in let short : g < length ps = omega (arith, length-append ps (new ∷ [])) in get_or-append ps (new ∷ []) d g short ∙ each g d short)
    (eqb_tells g (length ps))

each_snoc : (Is : Letter → Type 0) (letters : List Letter) (x : Letter) → Each Is letters → Is x → Each Is (letters ++ x ∷ [])
each_snoc Is letters x all is = All-append Is letters (x ∷ []) all (All-cons Is x [] is (All-nil Is))

-- The same moves keep the rule of a post with a claim, which holds for each queued letter.
pub begins_only : (Is : Letter → Type 0) → DeliversOnly Is [] (collector [] 0 [] ∷ [])
begins_only Is = (begins, All-nil Is)

pub posts_only : (Is : Letter → Type 0) (n pass : ℕ) (v : Known) (x : Letter) → v.posts ≡ true → x.general ≡ v.general → Is x
    → Pushes (DeliversOnly Is) n pass v x (λ w. w ≡ poster v.general (v.letters ++ x ∷ []))
posts_only Is n pass v x may by is items views room h at =
    let r = posts n pass v x may by items views room h.0 at in
    (r.0, (r.1, each_snoc Is items x h.1 is), r.2)

pub takes_only : (Is : Letter → Type 0) (pass : ℕ) (v : Known) → v.takes ≡ true
    → Pops (DeliversOnly Is) pass v (λ x w. (w ≡ collector (v.letters ++ x ∷ []) v.made v.back) × Is x)
takes_only Is pass v may x items views h at =
    let r = takes pass v may x items views h.0 at in
    (r.0, (r.1, All-tail Is x items h.1), (r.2, All-head Is x items h.1))

pub hires_only : (Is : Letter → Type 0) (pass : ℕ) (v : Known) → v.takes ≡ true → Forks (DeliversOnly Is) pass v (collector v.letters (v.made + 1) v.back) (poster v.made [])
hires_only Is pass v may items views h at = (hires pass v may items views h.0 at, h.1)

pub returns_only : (Is : Letter → Type 0) (pass : ℕ) (v : Known) (other : ℕ) (u : Known) → v.takes ≡ true → u.posts ≡ true
    → Merges (DeliversOnly Is) pass v other u (collector v.letters v.made (posted u.general u.letters ∷ v.back)) spent
returns_only Is pass v other u may posts' items views h at two at' = (returns pass v other u may posts' items views h.0 at two at', h.1)

pub learns_only : (Is : Letter → Type 0) (pass : ℕ) (v : Known) → v.takes ≡ true → Learns (DeliversOnly Is) pass v (λ items. AreDelivered (v.letters ++ items) v.back)
learns_only Is pass v may items views h at = learns pass v may items views h.0 at
