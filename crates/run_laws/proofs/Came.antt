-- Each reading that is kept after a turn was kept before it, was in a slot, or is of the turn.
use Rattle.std.proofs.Common.{Bool, List, None, Option, Some, ap, false, get_or-set_other, get_or-set_same, inl, inr, is_some, length, nat_lt, refl, subst, sym, true, ℕ, ◌<◌, ◌==◌, ◌∙◌, ◌≡◌, ◌≤◌, ◌⊎◌, if◌then◌else◌, slice_index_or, slice_set}
use Rattle.run_laws.proofs.Prelude.{Act, BookState, CommandTurn, Flown, Instance, IsKeptSo, Observation, Ready, Row, ServerNo, State, Status}
use Rattle.run_laws.proofs.Prelude.{Turn, Unended, Update, act_asks, act_in, added_over, after_act, after_discovery, after_done, as_read, asks, book_decided}
use Rattle.run_laws.proofs.Prelude.{book_turned, command_outcome, decided_of, discovered_over, done_asks, eqb-false, eqb-true, first_seen, instance_at}
use Rattle.run_laws.proofs.Prelude.{job_at, job_observation, known_of, length-set, ltb-false, ltb-true, next_count, none-some, after_change, removal, option_map}
use Rattle.run_laws.proofs.Prelude.{reads_with, same_Some, seen_in, shown_at, slot_at, status, step, stored, stored_over, turn_of, turned_at, updated}
use Rattle.run_laws.proofs.Prelude.act
use Rattle.run_laws.proofs.Prelude.turn
use Rattle.run_laws.proofs.Making.{command-holds}
use Rattle.run_laws.proofs.Readiness.{job-sees}
use Rattle.run_laws.proofs.Readings.{decision-same, kept-so, turned-instances}
use Rattle.run_laws.proofs.Ready.{place-within}

-- ---- one instance

-- An instance after a turn that leaves this count of readings. It was there; or a reading of a slot was stored, or one
-- of the turn; or the turn discovered it.
pub data Came (s : State) (reads : ℕ) (n : ServerNo) (i : Instance) : Type 0 where
  Same : instance_at s.book n ≡ Some i → Came s reads n i
  Slot : (was : Instance) (o : Observation) (p : ℕ) → instance_at s.book n ≡ Some was → slot_at s p ≡ Some o → o.no.0 ≡ n.0 → was.read ≤ o.read → i ≡ as_read was o → Came s reads n i
  Shown : (was : Instance) (m : ServerNo) → instance_at s.book n ≡ Some was → m.0 ≡ n.0 → i ≡ as_read was (shown_at s m) → reads ≡ next_count s.reads → Came s reads n i
  First : (m : ServerNo) (seen : Status) → instance_at s.book n ≡ None → m.0 ≡ n.0 → seen_in (status s.world m.0) ≡ Some seen → i ≡ first_seen (shown_at s m) seen → reads ≡ next_count s.reads → Came s reads n i

-- what a turn leaves of what was read
pub record ReadsOn (s now : State) : Type 0 where
  pub count : (now.reads ≡ s.reads) ⊎ (now.reads ≡ next_count s.reads)
  pub slots : (p : ℕ) (o : Observation) → slot_at now p ≡ Some o → (slot_at s p ≡ Some o) ⊎ ((m : ServerNo) × (o ≡ shown_at s m) × (now.reads ≡ next_count s.reads))
  pub book : (n : ServerNo) (i : Instance) → instance_at now.book n ≡ Some i → Came s now.reads n i

-- ---- a reading that is stored

-- it was kept before, or is renewed by the reading
abbrev WasOrIs : BookState → Observation → ServerNo → Instance → Type 0
WasOrIs b o n i = (instance_at b n ≡ Some i) ⊎ ((was : Instance) × (instance_at b n ≡ Some was) × (o.no.0 ≡ n.0) × (was.read ≤ o.read) × (i ≡ as_read was o))

at-same : (b c : BookState) → c.instances ≡ b.instances → (n : ServerNo) (i : Instance) → instance_at c n ≡ Some i → instance_at b n ≡ Some i
at-same b c same n i at = sym (ap (λ (xs : List (Option Instance)). slice_index_or xs n.0 None) same) ∙ at

kept-came : (b : BookState) (o : Observation) (c : BookState) → IsKeptSo b o c → (n : ServerNo) (i : Instance) → instance_at c n ≡ Some i → WasOrIs b o n i
kept-came b o c kept n i at = go (n.0 == o.no.0) refl
  where
    go : (here : Bool) → (n.0 == o.no.0) ≡ here → WasOrIs b o n i
    go false other = inl (sym (kept.others n (eqb-false n.0 o.no.0 other)) ∙ at)
    go true here = by (instance_at b o.no) refl
      where
        place : n.0 ≡ o.no.0
        place = eqb-true n.0 o.no.0 here

        by : (x : Option Instance) → instance_at b o.no ≡ x → WasOrIs b o n i
        by None none = inl (at-same b c (kept.lacking none) n i at)
        by (Some was) had = when (nat_lt o.read was.read) refl
          where
            when : (old : Bool) → nat_lt o.read was.read ≡ old → WasOrIs b o n i
            when true test = inl (at-same b c (kept.old was had (ltb-true o.read was.read test)) n i at)
            when false test =
                let most = ltb-false o.read was.read test in
                inr (
                  was,
                  ap (λ (k : ℕ). slice_index_or b.instances k None) place ∙ had,
                  sym place,
                  most,
                  same_Some i (as_read was o) (sym at ∙ (ap (λ (k : ℕ). slice_index_or c.instances k None) place ∙ kept.newer was had most)),
                )

module _ (s : State) where
  -- a reading of the turn
  shown-came : (m : ServerNo) (c : BookState) → IsKeptSo s.book (shown_at s m) c → (n : ServerNo) (i : Instance) → instance_at c n ≡ Some i → Came s (next_count s.reads) n i
  shown-came m c kept n i at = go (kept-came s.book (shown_at s m) c kept n i at)
    where
      go : WasOrIs s.book (shown_at s m) n i → Came s (next_count s.reads) n i
      go (inl same) = Same same
      go (inr x) = Shown x.0 m x.1 x.2 x.4 refl

  slot-came : (p : ℕ) (o : Option Observation) → slot_at s p ≡ o → (n : ServerNo) (i : Instance) → instance_at (stored s.book o) n ≡ Some i → Came s s.reads n i
  slot-came p None none n i at = Same at
  slot-came p (Some o) has n i at = go (kept-came s.book o (stored s.book (Some o)) (kept-so s.book o (stored s.book (Some o)) refl) n i at)
    where
      go : WasOrIs s.book o n i → Came s s.reads n i
      go (inl same) = Same same
      go (inr x) = Slot x.0 o p x.1 has x.2 x.3 x.4

  -- a discovery
  found-came : (m n : ServerNo) (i : Instance) → instance_at (after_discovery s.book (shown_at s m)) n ≡ Some i → Came s (next_count s.reads) n i
  found-came m n i = go (instance_at s.book m) refl
    where
      lacks : (x : Option Status) → seen_in (status s.world m.0) ≡ x → instance_at s.book m ≡ None → instance_at (added_over s.book (shown_at s m) x) n ≡ Some i → Came s (next_count s.reads) n i
      lacks None is none at = Same at
      lacks (Some seen) is none at = by (n.0 == m.0) refl
        where
          new : Instance
          new = first_seen (shown_at s m) seen

          by : (here : Bool) → (n.0 == m.0) ≡ here → Came s (next_count s.reads) n i
          by false other = Same (sym (get_or-set_other s.book.instances m.0 n.0 (Some new) None (eqb-false n.0 m.0 other)) ∙ at)
          by true here =
              let place = eqb-true n.0 m.0 here in
              let within : m.0 < length s.book.instances =
              subst (λ (k : ℕ). k < length s.book.instances) place
              (subst (λ (k : ℕ). n.0 < k) (length-set s.book.instances m.0 (Some new)) (place-within (slice_set s.book.instances m.0 (Some new)) n.0 i at)) in
              First m seen (ap (λ (k : ℕ). slice_index_or s.book.instances k None) place ∙ none) (sym place) is
              (same_Some i new (sym at ∙ (ap (λ (k : ℕ). slice_index_or (slice_set s.book.instances m.0 (Some new)) k None) place ∙ get_or-set_same s.book.instances m.0 (Some new) None within))) refl

      go : (x : Option Instance) → instance_at s.book m ≡ x → instance_at (discovered_over s.book (shown_at s m) x) n ≡ Some i → Came s (next_count s.reads) n i
      go None none at = lacks (seen_in (status s.world m.0)) refl none at
      go (Some kept) has at =
          shown-came m (stored_over s.book (shown_at s m) (Some kept))
          (kept-so s.book (shown_at s m) (stored_over s.book (shown_at s m) (Some kept)) (sym (ap (λ (x : Option Instance). (stored_over s.book (shown_at s m) x).instances) has))) n i at

  -- ---- what leaves the slots

  abbrev Leaves : ℕ → Update → Type 0
  Leaves reads u = ((reads ≡ s.reads) ⊎ (reads ≡ next_count s.reads)) × ((n : ServerNo) (i : Instance) → instance_at (updated (known_of s) u).book n ≡ Some i → Came s reads n i)

  same-leaves : (c : BookState) → c.instances ≡ s.book.instances → (n : ServerNo) (i : Instance) → instance_at c n ≡ Some i → Came s s.reads n i
  same-leaves c same n i at = Same (at-same s.book c same n i at)

  removal-came : (k n : ServerNo) (i : Instance) → instance_at (after_change s.book (removal k)) n ≡ Some i → Came s s.reads n i
  removal-came k n i at = go (n.0 == k.0) refl
    where
      go : (here : Bool) → (n.0 == k.0) ≡ here → Came s s.reads n i
      go false other = Same (sym (get_or-set_other s.book.instances k.0 n.0 None None (eqb-false n.0 k.0 other)) ∙ at)
      go true here =
          let place = eqb-true n.0 k.0 here in
          let within : k.0 < length s.book.instances =
          subst (λ (m : ℕ). m < length s.book.instances) place
          (subst (λ (m : ℕ). n.0 < m) (length-set s.book.instances k.0 None) (place-within (slice_set s.book.instances k.0 None) n.0 i at)) in
          absurd (none-some i (sym (get_or-set_same s.book.instances k.0 None None within) ∙ (sym (ap (λ (m : ℕ). slice_index_or (slice_set s.book.instances k.0 None) m None) place) ∙ at)))

  command-leaves : (c : CommandTurn) → Leaves (command_outcome s c).reads (command_outcome s c).book
  command-leaves c = command-holds s c Leaves (record {
    stays = (inl refl, same-leaves s.book refl);
    discovery = λ m. (inr refl, found-came m);
    removal = λ k. (inl refl, removal-came k);
    decides = λ d. (
      inl refl,
      same-leaves (book_decided s.book (decided_of s.book s.audit (record { 0 = s.moment }) c.keys c.command.i d).effect)
          (decision-same s.book s.audit (record { 0 = s.moment }) c.keys c.command.i d),
    );
    begins = λ p. (inl refl, same-leaves s.book refl);
    recovers = λ k. (inl refl, same-leaves s.book refl);
    takes = λ k d. (inl refl, same-leaves s.book refl);
  })

-- ---- a turn

module _ (count : ℕ) (rows : List Row) (s : State) (ready : Ready count s) where
  still : ReadsOn s s
  still = record { count = inl refl; slots = λ p o at. inl at; book = λ n i at. Same at }

  polled : (p : ℕ) (m : ServerNo) → ReadsOn s (after_act rows s (act.PollRead p m))
  polled p m = go (is_some (instance_at s.book m))
    where
      set : (q : ℕ) (o : Observation) → slice_index_or (slice_set s.slots p (Some (shown_at s m))) q None ≡ Some o
          → (slot_at s q ≡ Some o) ⊎ ((k : ServerNo) × (o ≡ shown_at s k) × (next_count s.reads ≡ next_count s.reads))
      set q o at = by (q == p) refl
        where
          by : (here : Bool) → (q == p) ≡ here → (slot_at s q ≡ Some o) ⊎ ((k : ServerNo) × (o ≡ shown_at s k) × (next_count s.reads ≡ next_count s.reads))
          by false other = inl (sym (get_or-set_other s.slots p q (Some (shown_at s m)) None (eqb-false q p other)) ∙ at)
          by true here =
              let place = eqb-true q p here in
              let within : p < length s.slots =
              subst (λ (k : ℕ). k < length s.slots) place (subst (λ (k : ℕ). q < k) (length-set s.slots p (Some (shown_at s m))) (place-within (slice_set s.slots p (Some (shown_at s m))) q o at)) in
              inr (m, same_Some o (shown_at s m) (sym at ∙ (ap (λ (k : ℕ). slice_index_or (slice_set s.slots p (Some (shown_at s m))) k None) place ∙ get_or-set_same s.slots p (Some (shown_at s m)) None within)), refl)

      go : (known : Bool) → ReadsOn s (record s { slots = if known then slice_set s.slots p (Some (shown_at s m)) else s.slots; reads = if known then next_count s.reads else s.reads })
      go true = record { count = inr refl; slots = set; book = λ n i at. Same at }
      go false = record { count = inl refl; slots = λ q o at. inl at; book = λ n i at. Same at }

  emptied : (p : ℕ) → ReadsOn s (after_act rows s (act.PollStore p))
  emptied p = record { count = inl refl; slots = λ q o at. inl (set q o at); book = slot-came s p (slot_at s p) refl }
    where
      set : (q : ℕ) (o : Observation) → slice_index_or (slice_set s.slots p None) q None ≡ Some o → slot_at s q ≡ Some o
      set q o at = by (q == p) refl
        where
          by : (here : Bool) → (q == p) ≡ here → slot_at s q ≡ Some o
          by false other = sym (get_or-set_other s.slots p q None None (eqb-false q p other)) ∙ at
          by true here =
              let place = eqb-true q p here in
              let within : p < length s.slots =
              subst (λ (k : ℕ). k < length s.slots) place (subst (λ (k : ℕ). q < k) (length-set s.slots p None) (place-within (slice_set s.slots p None) q o at)) in
              absurd (none-some o (sym (get_or-set_same s.slots p None None within) ∙ (sym (ap (λ (k : ℕ). slice_index_or (slice_set s.slots p None) k None) place) ∙ at)))

  commanded : (c : CommandTurn) → ReadsOn s (after_act rows s (act.Command c))
  commanded c = let h = command-leaves s c in record { count = h.0; slots = λ p o at. inl at; book = h.1 }

  turned : (id : ℕ) → ReadsOn s (after_act rows s (act.Job id))
  turned id = go (job_at s.jobs id) refl
    where
      -- by what the turn observes
      sees : (u : Unended) → job_at s.jobs id ≡ Some u → (x : Option Observation) → (turn_of s u).observation ≡ x
          → (((reads_with s.reads x) ≡ s.reads) ⊎ ((reads_with s.reads x) ≡ next_count s.reads)) × ((n : ServerNo) (i : Instance) → instance_at (stored s.book x) n ≡ Some i → Came s (reads_with s.reads x) n i)
      sees u at None is = (inl refl, λ n i has. Same has)
      sees u at (Some o) is =
          let it = job-sees count s id u ready at o is in (
            inr refl,
            λ n i has. shown-came s it.0 (stored s.book (Some o)) (kept-so s.book (shown_at s it.0) (stored s.book (Some o)) (ap (λ (x : Observation). (stored s.book (Some x)).instances) it.1)) n i has,
          )

      go : (x : Option Unended) → job_at s.jobs id ≡ x → ReadsOn s (after_act rows s (act.Job id))
      go None none =
          let turn-is : turned_at s id ≡ None = ap (option_map (turn_of s)) none in
          record {
            count = inl (ap (λ (t : Option Flown). reads_with s.reads (job_observation t)) turn-is);
            slots = λ p o at. inl at;
            book = λ n i at. Same (at-same s.book (book_turned s.book id (turned_at s id)) (ap (λ (t : Option Flown). (book_turned s.book id t).instances) turn-is) n i at);
          }
      go (Some u) at =
          let turn-is : turned_at s id ≡ Some (turn_of s u) = ap (option_map (turn_of s)) at in
          let h = sees u at (turn_of s u).observation refl in
          let reads : (after_act rows s (act.Job id)).reads ≡ reads_with s.reads (turn_of s u).observation = ap (λ (t : Option Flown). reads_with s.reads (job_observation t)) turn-is in
          record {
            count = subst (λ (k : ℕ). (k ≡ s.reads) ⊎ (k ≡ next_count s.reads)) (sym reads) h.0;
            slots = λ p o has. inl has;
            book = λ n i has.
                subst (λ (k : ℕ). Came s k n i) (sym reads)
                (h.1 n i (at-same (stored s.book (turn_of s u).observation) (book_turned s.book id (turned_at s id))
                (ap (λ (t : Option Flown). (book_turned s.book id t).instances) turn-is ∙ turned-instances s.book id (turn_of s u)) n i has));
          }

  pub act-reads : (a : Act) → act_asks a ≡ false → ReadsOn s (after_act rows s a)
  act-reads (act.PollRead p m) plain = polled p m
  act-reads (act.PollStore p) plain = emptied p
  act-reads (act.Command c) plain = commanded c
  act-reads (act.Job id) plain = turned id
  act-reads act.Scan plain = record { count = inl refl; slots = λ p o at. inl at; book = λ n i at. Same at }
  act-reads act.Restart plain = cc

  done-reads : (o : Option Act) → done_asks o ≡ false → ReadsOn s (after_done rows s o)
  done-reads None plain = still
  done-reads (Some a) plain = act-reads a plain

  pub turn-reads : (t : Turn) → asks s t ≡ false → ReadsOn s (step rows s t)
  turn-reads (turn.Act a) plain = act-reads a plain
  turn-reads (turn.As node a) plain = let h = done-reads (act_in s (turn.As node a)) plain in record { count = h.count; slots = h.slots; book = h.book }
  turn-reads (turn.Claim node) plain = let h = done-reads (act_in s (turn.Claim node)) plain in record { count = h.count; slots = h.slots; book = h.book }
  turn-reads _ plain = record { count = inl refl; slots = λ p o at. inl at; book = λ n i at. Same at }
