-- The lines of a journal, one after another.
use Rattle.orch_core.proofs.ServerModel.ExecutedSets.{or_assoc}
use Rattle.std.proofs.Common.{◌≡◌, ◌∙◌, ℕ, ◌+◌, ◌<◌, Bool, true, false, List, [], ◌∷◌, ◌++◌, length, take, drop, get_or, Result, Ok, Err, refl, sym, ap, subst, arith, append_assoc, ◌||◌, OnErr}
use Rattle.tasks.proofs.Prelude.{Adds, Carries, Ending, EndsWhole, FailsIn, HostPort, IsOnTheWay, JournalStands, Pieces, Progress, Recorded, Reply}
use Rattle.tasks.proofs.Prelude.{Stays, Taken, Takes, TakesFront, Told, ToldSome, Turn, any_refused, append-nil, between, headed_text, is_refused}
use Rattle.tasks.proofs.Prelude.{length-map, length-take-le, line_text, lines_text, list_any, list_any-append, map_more, replies_text, tables_of}
use Rattle.tasks.proofs.Prelude.{take-append-drop, take-length, take-map, told_in}
use Rattle.tasks.proofs.Prelude.ends
use Rattle.tasks.proofs.Courses.{lines-append}
use Rattle.tasks.proofs.Sends.{front_of_longer, front_taken, takes_nothing}

abbrev Entry : Type 0
Entry = ℕ × Turn × Reply

or_false : (b : Bool) → b ≡ (b || false)
or_false true = refl
or_false false = refl

-- of an error
pub on_err : {A E : Type 0} (P : Type 0) (r : Result A E) → P → OnErr r P
on_err P (Ok x) is = tt
on_err P (Err e) is = is

-- no line yet
pub Told-nil : (names : List HostPort) (es : List (Turn × Reply)) (p : Progress) (o : Taken) → Told names es 0 p p o o
Told-nil names es p o = record {
  text = λ from text carries. subst (Carries (between from o) p.pieces) (sym (append-nil text)) carries;
  refused = or_false p.is_refused;
}

module _ (names : List HostPort) (es : List Entry) (i : ℕ) (d : Entry) (p q q' : Progress) (old mid new : Taken) (within : i < length es) (told : Told names (told_in es) i p q old mid) where
  abbrev e : Entry
  e = get_or es i d

  more : take (i + 1) (told_in es) ≡ take i (told_in es) ++ (e.1, e.2) ∷ []
  more =
      take-map (λ (x : Entry). (x.1, x.2)) (i + 1) es
      ∙ (map_more (λ (x : Entry). (x.1, x.2)) es i d within
      ∙ ap (λ (xs : List (Turn × Reply)). xs ++ (e.1, e.2) ∷ []) (sym (take-map (λ (x : Entry). (x.1, x.2)) i es)))

  lines : lines_text names 1 (take (i + 1) (told_in es)) ≡ lines_text names 1 (take i (told_in es)) ++ line_text names (i + 1) e.1 e.2
  lines =
      let many : length (told_in es) ≡ length es = length-map es (λ (x : Entry). (x.1, x.2)) in
      let few : length (take i (told_in es)) ≡ i = length-take-le i (told_in es) (omega (arith, within, many)) in
      let number : 1 + length (take i (told_in es)) ≡ i + 1 = omega (arith, few) in
      ap (lines_text names 1) more
      ∙ (lines-append names 1 (take i (told_in es)) ((e.1, e.2) ∷ [])
      ∙ ap (λ (bytes : List ℕ). lines_text names 1 (take i (told_in es)) ++ bytes) (append-nil (line_text names (1 + length (take i (told_in es))) e.1 e.2) ∙ ap (λ (n : ℕ). line_text names n e.1 e.2) number))

  -- one more line joins the text
  pub Told-next : Adds names (i + 1) e.1 e.2 q q' mid new → Told names (told_in es) (i + 1) p q' old new
  Told-next adds = record {
    text = λ from text carries.
        subst (Carries (between from new) q'.pieces)
        (append_assoc text (lines_text names 1 (take i (told_in es))) (line_text names (i + 1) e.1 e.2) ∙ ap (λ (bytes : List ℕ). text ++ bytes) (sym lines))
        (adds.text from (text ++ lines_text names 1 (take i (told_in es))) (told.text from text carries));
    refused =
        adds.is_refused ∙ (ap (λ (b : Bool). b || is_refused e.2) told.refused
        ∙ (or_assoc p.is_refused (list_any (λ (x : Turn × Reply). is_refused x.1) (take i (told_in es))) (is_refused e.2)
        ∙ ap (λ (b : Bool). p.is_refused || b)
        (ap (λ (b : Bool). list_any (λ (x : Turn × Reply). is_refused x.1) (take i (told_in es)) || b) (or_false (is_refused e.2))
        ∙ (sym (list_any-append (λ (x : Turn × Reply). is_refused x.1) (take i (told_in es)) ((e.1, e.2) ∷ []))
        ∙ ap (list_any (λ (x : Turn × Reply). is_refused x.1)) (sym more)))));
  }

  -- memory ran out for it
  pub Told-wanting : Stays q.pieces q'.pieces mid new → ToldSome names (told_in es) p q' old new
  Told-wanting stays =
      let many : length (told_in es) ≡ length es = length-map es (λ (x : Entry). (x.1, x.2)) in
      record {
        k = i;
        within = omega (arith, within, many);
        text = λ from text carries. stays from (text ++ lines_text names 1 (take i (told_in es))) (told.text from text carries);
      }

-- ---- the report

-- after a text of which nothing was handed over yet
begun : (head : List ℕ) (p : Pieces) (o : Taken) → p.held.items ≡ head → p.failed ≡ false → Carries (between o o) p head
begun head p o held unfailed = go p.failed unfailed
  where
    go : (failed : Bool) → failed ≡ false → IsOnTheWay (between o o) p.held.items head failed
    go true is = absurd cc
    go false is = record { front = []; took = takes_nothing o.bytes; is = sym held; later = omega arith }

module _ (head : List ℕ) (names : List HostPort) (es : List Entry) (run : Recorded) (p q : Progress) (old mid new : Taken) (journal : run.journal ≡ told_in es)
    (held : p.pieces.held.items ≡ head) (unfailed : p.pieces.failed ≡ false) (unrefused : p.is_refused ≡ false) where
  -- all lines are on their way
  module _ (told : Told names (told_in es) (length es) p q old mid) where
    all_of : take (length es) (told_in es) ≡ run.journal
    all_of =
        let many : length (told_in es) ≡ length es = length-map es (λ (x : Entry). (x.1, x.2)) in
        ap (λ (n : ℕ). take n (told_in es)) (sym many) ∙ (take-length (told_in es) ∙ sym journal)

    text : Carries (between old mid) q.pieces (head ++ replies_text names run)
    text = subst (λ (xs : List (Turn × Reply)). Carries (between old mid) q.pieces (head ++ lines_text names 1 xs)) all_of (told.text old head (begun head p.pieces old held unfailed))

    whole : (head ++ replies_text names run) ++ tables_of run.state ≡ headed_text head names run
    whole = append_assoc head (replies_text names run) (tables_of run.state)

    refused : q.is_refused ≡ any_refused run
    unfolding any_refused
    refused = told.refused ∙ (ap (λ (b : Bool). b || list_any (λ (x : Turn × Reply). is_refused x.1) (take (length es) (told_in es))) unrefused ∙ ap (list_any (λ (x : Turn × Reply). is_refused x.1)) all_of)

    pub journal_ends : (ending : Ending) → EndsWhole run.state q mid new ending → JournalStands head names run (between old new) ending
    journal_ends (ends.Written bad) told_so = (subst (λ (v : List ℕ). Takes (between old new) v) whole (told_so.0 old (head ++ replies_text names run) text), told_so.1 ∙ refused)
    journal_ends ends.Unwritten told_so = subst (λ (v : List ℕ). FailsIn (between old new) v) whole (told_so old (head ++ replies_text names run) text)
    journal_ends ends.Keeper told_so = absurd told_so
    journal_ends ends.Memory told_so =
        subst (λ (o : Taken). TakesFront (between old o) (headed_text head names run)) (sym told_so)
        (subst (λ (v : List ℕ). TakesFront (between old mid) v) whole
        (front_of_longer old.bytes mid.bytes (head ++ replies_text names run) (tables_of run.state) (front_taken (between old mid) q.pieces.held.items (head ++ replies_text names run) q.pieces.failed text)))

  -- memory ran out for one of them
  pub journal_wants : ToldSome names (told_in es) p q old mid → TakesFront (between old mid) (headed_text head names run)
  journal_wants some =
      let first = lines_text names 1 (take some.k (told_in es)) in
      let rest = lines_text names (1 + length (take some.k (told_in es))) (drop some.k (told_in es)) in
      let carries : Carries (between old mid) q.pieces (head ++ first) = some.text old head (begun head p.pieces old held unfailed) in
      let front : TakesFront (between old mid) (head ++ first) = front_taken (between old mid) q.pieces.held.items (head ++ first) q.pieces.failed carries in
      let all : replies_text names run ≡ first ++ rest = ap (lines_text names 1) (journal ∙ sym (take-append-drop some.k (told_in es))) ∙ lines-append names 1 (take some.k (told_in es)) (drop some.k (told_in es)) in
      let same : (head ++ first) ++ (rest ++ tables_of run.state) ≡ headed_text head names run =
      append_assoc head first (rest ++ tables_of run.state)
      ∙ ap (λ (v : List ℕ). head ++ v) (sym (append_assoc first rest (tables_of run.state)) ∙ ap (λ (v : List ℕ). v ++ tables_of run.state) (sym all)) in
      subst (λ (v : List ℕ). TakesFront (between old mid) v) same (front_of_longer old.bytes mid.bytes (head ++ first) (rest ++ tables_of run.state) front)
