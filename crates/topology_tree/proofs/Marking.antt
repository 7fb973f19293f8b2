-- one step of the walks that find loops
use Rattle.std.proofs.Common.{◌≡◌, ℕ, ◌+◌, ◌<◌, Bool, true, false, List, length, refl, sym, ◌∙◌, ap, subst, inl, inr, ◌⊎◌, Option, Some, None, arith, get_or, set, get_or-set_same, get_or-set_other, IfSome, Vec}
use Rattle.topology_tree.proofs.Prelude.{ComesBack, Finished, Follows, IsBefore, IsClosed, IsMarked, LeadsTo, Looping, MarksLoops, Settles, Walked}
use Rattle.topology_tree.proofs.Prelude.{above, cases_eq, cases_lt, same_Some, with_items, with_items_is}
use Rattle.topology_tree.proofs.Chains.{LeadsTo-first, LeadsTo-step, Settles-before, Settles-from_Ends, Grounded-no_return, Follows-back, holds_along}

-- so far marked from node on: the last that was met is at
pub record Marking (up : ℕ → Option ℕ) (before looped : List Bool) (node at : ℕ) : Type 0 where
  pub sound : (n : ℕ) → IsMarked looped n → ComesBack up n
  pub kept : (n : ℕ) → IsMarked before n → IsMarked looped n
  pub closed : (n m : ℕ) → IsMarked looped n → up n ≡ Some m → IsMarked looped m ⊎ (m ≡ at)
  pub reached : (node ≡ at) ⊎ IsMarked looped node
  pub back : ComesBack up at

marked-set : (looped : List Bool) (at n : ℕ) → at < length looped → IsMarked looped n → IsMarked (set looped at true) n
marked-set looped at n lt h =
    elim (cases_eq n at) [
      | inl same ↦ subst (λ (y : ℕ). IsMarked (set looped at true) y) (sym same) (get_or-set_same looped at true false lt)
      | inr other ↦ get_or-set_other looped at n true false other ∙ h
    ]

marked-cases : (looped : List Bool) (at n : ℕ) → IsMarked (set looped at true) n → (n ≡ at) ⊎ IsMarked looped n
marked-cases looped at n h =
    elim (cases_eq n at) [ inl same ↦ inl same | inr other ↦ inr (sym (get_or-set_other looped at n true false other) ∙ h) ]

pub Marking-step : (up : ℕ → Option ℕ) (before looped : List Bool) (node at next : ℕ) → at < length looped → Marking up before looped node at
    → ((m : ℕ) → up at ≡ Some m → m ≡ next) → ComesBack up next → Marking up before (set looped at true) node next
Marking-step up before looped node at next lt marking follows back = record {
  sound = λ n h. elim (marked-cases looped at n h) [
    | inl same ↦ subst (λ (y : ℕ). ComesBack up y) (sym same) marking.back
    | inr old ↦ marking.sound n old
  ];
  kept = λ n h. marked-set looped at n lt (marking.kept n h);
  closed = λ n m h e. elim (marked-cases looped at n h) [
    | inl same ↦ inr (follows m (ap up (sym same) ∙ e))
    | inr old ↦ elim (marking.closed n m old e) [
      | inl there ↦ inl (marked-set looped at m lt there)
      | inr here ↦ inl (subst (λ (y : ℕ). IsMarked (set looped at true) y) (sym here) (get_or-set_same looped at true false lt))
    ]
  ];
  reached = elim marking.reached [
    | inl same ↦ inr (subst (λ (y : ℕ). IsMarked (set looped at true) y) (sym same) (get_or-set_same looped at true false lt))
    | inr old ↦ inr (marked-set looped at node lt old)
  ];
  back = back;
}

-- before the first step
pub Walked-begin : (sources : List (Option ℕ)) (walks : List ℕ) (start : ℕ) → start < length sources → IsBefore sources walks start → Walked sources walks walks start (Some start)
Walked-begin sources walks start lt before = record {
  kept = λ n _ h. h;
  earlier = λ n _ h. h;
  others = λ n h. elim (before n h) [ inl low ↦ inl low | inr unmet ↦ inr (inr unmet) ];
  leads = λ n h e. absurd (elim (before n h) [ inl low ↦ omega arith | inr unmet ↦ omega arith ]);
  met = λ n m h e _. absurd (elim (before n h) [ inl low ↦ omega arith | inr unmet ↦ omega arith ]);
}

pub Walked-step : (sources : List (Option ℕ)) (before walks : List ℕ) (start node : ℕ) → start < length sources → node < length walks
    → get_or walks node 0 ≡ length sources → Walked sources before walks start (Some node)
    → Walked sources before (set walks node start) start (above sources node)
Walked-step sources before walks start node lt within unmet walked = record {
  kept = λ n in_range h. elim (cases_eq n node) [
    | inl same ↦ rw (now n same) (omega (arith, walked.kept n in_range h, ap (λ (y : ℕ). get_or walks y 0) same))
    | inr other ↦ rw (get_or-set_other walks node n start 0 other) (walked.kept n in_range h)
  ];
  earlier = λ n in_range h. elim (cases_eq n node) [
    | inl same ↦ absurd (omega (arith, now n same))
    | inr other ↦ walked.earlier n in_range (rw (get_or-set_other walks node n start 0 other) at h)
  ];
  others = λ n in_range. elim (cases_eq n node) [
    | inl same ↦ inr (inl (now n same))
    | inr other ↦ rw (get_or-set_other walks node n start 0 other) (walked.others n in_range)
  ];
  leads = λ n in_range h. elim (cases_eq n node) [
    | inl same ↦ subst (λ (y : ℕ). LeadsTo (above sources) (above sources node) y) (sym same) (LeadsTo-first (above sources) node (above sources node) refl)
    | inr other ↦ LeadsTo-step (above sources) node n (above sources node) refl (walked.leads n in_range (rw (get_or-set_other walks node n start 0 other) at h))
  ];
  met = λ n m in_range h e. elim (cases_eq n node) [
    | inl same ↦ inr (ap (above sources) (sym same) ∙ e)
    | inr other ↦ elim (cases_eq m node) [
      | inl here ↦ inl (rw (now m here) lt)
      | inr there ↦ elim (walked.met n m in_range (rw (get_or-set_other walks node n start 0 other) at h) e) [
        | inl met ↦ inl (rw (get_or-set_other walks node m start 0 there) met)
        | inr stop ↦ absurd (there (sym (let f : Some node ≡ Some m = stop in cc)))
      ]
    ]
  ];
}
  where
    now : (n : ℕ) → n ≡ node → get_or (set walks node start) n 0 ≡ start
    now n same = ap (λ (y : ℕ). get_or (set walks node start) y 0) same ∙ get_or-set_same walks node start 0 within

-- a source is in range
pub above-closed : (ups : List (Option ℕ)) (n : ℕ) → IsClosed ups → IfSome (above ups n) (λ m. m < length ups)
above-closed ups n closed = go (above ups n) refl
  where
    go : (o : Option ℕ) → above ups n ≡ o → IfSome o (λ m. m < length ups)
    go None e = tt
    go (Some m) e = closed n m e

pub in_range : (o : Option ℕ) (x most : ℕ) → o ≡ Some x → IfSome o (λ m. m < most) → x < most
in_range o x most is h = subst (λ v. IfSome v (λ m. m < most)) is h

pub named : (P : ℕ → Type 0) (a x : ℕ) → Some a ≡ Some x → P a → P x
named P a x e p = subst P (same_Some a x e) p

-- after a walk all its nodes are finished, if the loop that it came to is marked
pub Finished-next : (sources : List (Option ℕ)) (before after : List ℕ) (start : ℕ) (looped marked : List Bool) (stop : Option ℕ)
    → start < length sources → IsClosed sources → Walked sources before after start stop → Finished sources before start looped
    → ((n : ℕ) → IsMarked looped n → IsMarked marked n) → MarksLoops (above sources) marked
    → ((x : ℕ) → stop ≡ Some x → (x < length sources) × (get_or after x 0 < length sources))
    → ((x : ℕ) → stop ≡ Some x → get_or after x 0 ≡ start → IsMarked marked x)
    → Finished sources after (start + 1) marked
Finished-next sources before after start looped marked stop lt closed walked old kept marks met looping = record {
  settles = λ n h low. elim (cases n h low) [
    | inl earlier ↦ old.settles n h (walked.earlier n h earlier)
    | inr now ↦ settles-led n stop refl (walked.leads n h now)
  ];
  closed = λ n m h low e. elim (cases n h low) [
    | inl earlier ↦ omega (arith, walked.kept m (closed n m e) (old.closed n m h (walked.earlier n h earlier) e))
    | inr now ↦ elim (walked.met n m h now e) [
      | inl there ↦ low-met m (closed n m e) there
      | inr here ↦ low-met m (closed n m e) ((met m here).1)
    ]
  ];
  known = λ n h low back. elim (cases n h low) [
    | inl earlier ↦ kept n (old.known n h (walked.earlier n h earlier) back)
    | inr now ↦ known-led n h now back stop refl (walked.leads n h now)
  ];
}
  where
    up : ℕ → Option ℕ
    up n = above sources n

    cases : (n : ℕ) → n < length sources → get_or after n 0 < start + 1 → (get_or after n 0 < start) ⊎ (get_or after n 0 ≡ start)
    cases n h low = elim (walked.others n h) [
      | inl earlier ↦ inl earlier
      | inr rest ↦ elim rest [ inl now ↦ inr now | inr unmet ↦ absurd (omega (arith, unmet, low, lt)) ]
    ]

    low-met : (n : ℕ) → n < length sources → get_or after n 0 < length sources → get_or after n 0 < start + 1
    low-met n h there = elim (walked.others n h) [
      | inl earlier ↦ omega (arith, earlier)
      | inr rest ↦ elim rest [ inl now ↦ omega (arith, now) | inr unmet ↦ absurd (omega (arith, unmet, there)) ]
    ]

    settles-stop : (x : ℕ) → stop ≡ Some x → Settles (above sources) x
    settles-stop x e = elim (cases x (met x e).0 (low-met x (met x e).0 (met x e).1)) [
      | inl earlier ↦ old.settles x (met x e).0 (walked.earlier x (met x e).0 earlier)
      | inr now ↦ Looping x (subst (λ o. LeadsTo (above sources) o x) e (walked.leads x (met x e).0 now))
    ]

    settles-led : (n : ℕ) (o : Option ℕ) → stop ≡ o → LeadsTo (above sources) stop n → Settles (above sources) n
    settles-led n None e led = Settles-from_Ends (above sources) n (subst (λ o. LeadsTo (above sources) o n) e led)
    settles-led n (Some x) e led = Settles-before (above sources) x n (subst (λ o. LeadsTo (above sources) o n) e led) (settles-stop x e)

    known-led : (n : ℕ) → n < length sources → get_or after n 0 ≡ start → ComesBack (above sources) n → (o : Option ℕ) → stop ≡ o → LeadsTo (above sources) stop n → IsMarked marked n
    known-led n h now back None e led = absurd (Grounded-no_return (above sources) n (subst (λ o. LeadsTo (above sources) o n) e led) back)
    known-led n h now back (Some x) e led =
        let there : Follows (above sources) x n = subst (λ o. LeadsTo (above sources) o n) e led in
        let again : Follows (above sources) n x = Follows-back (above sources) x n there back in
        elim (cases x (met x e).0 (low-met x (met x e).0 (met x e).1)) [
          | inl earlier ↦
              let finished : (n < length sources) × (get_or before n 0 < start) =
              holds_along (λ y. (y < length sources) × (get_or before y 0 < start)) (above sources) n x
              (λ a m p f. (closed a m f, old.closed a m p.0 p.1 f)) again ((met x e).0, walked.earlier x (met x e).0 earlier)
              in
              absurd (omega (arith, walked.kept n h finished.1, now))
          | inr here ↦ holds_along (λ y. IsMarked marked y) (above sources) n x marks.closed again (looping x e here)
        ]

-- the search for loops has come to start
pub record Sought (sources : List (Option ℕ)) (walks : List ℕ) (looped : List Bool) (start : ℕ) : Type 0 where
  pub walks_len : length walks ≡ length sources
  pub looped_len : length looped ≡ length sources
  pub marks : MarksLoops (above sources) looped
  pub before : IsBefore sources walks start
  pub finished : Finished sources walks start looped
  pub all : (n : ℕ) → n < start → get_or walks n 0 < start

-- a node that an earlier walk met needs none
pub Sought-skip : (sources : List (Option ℕ)) (walks : List ℕ) (looped : List Bool) (start : ℕ) → start < length sources → Sought sources walks looped start
    → (get_or walks start 0 ≡ length sources → ⊥) → Sought sources walks looped (start + 1)
Sought-skip sources walks looped start lt sought met = record {
  walks_len = sought.walks_len;
  looped_len = sought.looped_len;
  marks = sought.marks;
  before = λ n h. elim (sought.before n h) [ inl low ↦ inl (omega (arith, low)) | inr unmet ↦ inr unmet ];
  finished = record {
    settles = λ n h low. sought.finished.settles n h (earlier n h low);
    closed = λ n m h low e. omega (arith, sought.finished.closed n m h (earlier n h low) e);
    known = λ n h low back. sought.finished.known n h (earlier n h low) back;
  };
  all = λ n h. elim (cases_lt n start) [
    | inl below ↦ omega (arith, sought.all n below)
    | inr above' ↦
        let same : n ≡ start = omega (arith, h, above') in
        elim (sought.before start lt) [ inl low ↦ omega (arith, low, ap (λ y. get_or walks y 0) same) | inr unmet ↦ absurd (met unmet) ]
  ];
}
  where
    earlier : (n : ℕ) → n < length sources → get_or walks n 0 < start + 1 → get_or walks n 0 < start
    earlier n h low = elim (sought.before n h) [ inl lower ↦ lower | inr unmet ↦ absurd (omega (arith, unmet, low, lt)) ]

pub Sought-walk : (sources : List (Option ℕ)) (before walks : List ℕ) (looped marked : List Bool) (start : ℕ) → Sought sources before looped start → start < length sources
    → length walks ≡ length sources → length marked ≡ length sources → IsBefore sources walks (start + 1) → MarksLoops (above sources) marked → Finished sources walks (start + 1) marked
    → ((n : ℕ) → n < length sources → get_or before n 0 < start → get_or walks n 0 < start + 1) → get_or walks start 0 < start + 1 → Sought sources walks marked (start + 1)
Sought-walk sources before walks looped marked start sought lt walks_len looped_len is_before marks finished kept begun = record {
  walks_len = walks_len;
  looped_len = looped_len;
  marks = marks;
  before = is_before;
  finished = finished;
  all = λ n h. elim (cases_lt n start) [
    | inl below ↦ kept n (omega (arith, below, lt)) (sought.all n below)
    | inr above' ↦ let same : n ≡ start = omega (arith, h, above') in subst (λ y. get_or walks y 0 < start + 1) (sym same) begun
  ];
}

pub Sought-items : {Z : Type 0} (sources : List (Option ℕ)) (v : Vec ℕ Z) (w : Vec Bool Z) (walks : List ℕ) (looped : List Bool) (start : ℕ)
    → length walks ≡ v.len → length looped ≡ w.len → Sought sources walks looped start → Sought sources (with_items v walks).items (with_items w looped).items start
Sought-items sources v w walks looped start walks_len looped_len sought =
    subst (λ xs. Sought sources xs (with_items w looped).items start) (sym (with_items_is v walks walks_len))
    (subst (λ ys. Sought sources walks ys start) (sym (with_items_is w looped looped_len)) sought)
