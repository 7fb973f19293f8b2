-- When a job begins, and what the checks of a permitted command mean for the book and the servers.
use Rattle.std.proofs.Common.{◌≡◌, ℕ, Bool, true, false, not, List, [], ◌∷◌, refl, sym, ◌∙◌, ap, Option, Some, None, ◌==◌, All, slice_index_or}
use Rattle.move_laws.proofs.Prelude.{All-cons, All-head, All-nil, All-tail, Attached, Begins, BookState, Detached, Job, Op, ServerNo, SourceState}
use Rattle.move_laws.proofs.Prelude.{Without, World, are_held, are_listed, are_matched, attached_in, attached_of, busy, eq-eqb, eqb-true, false≢true}
use Rattle.move_laws.proofs.Prelude.{first_about, footing, has_log, id_in, instance_at, is_attached_to, is_replica_of, job_with, leases_of, logs_at}
use Rattle.move_laws.proofs.Prelude.{logs_by, logs_in, matched_in, moves_to, of_same_id, option_and_then, same_id, same_Some, seen_source, server_at}
use Rattle.move_laws.proofs.Prelude.{source_above, source_in, source_of, without_log}
use Rattle.move_laws.proofs.Prelude.ServerModel.{Server as AServer}
use Rattle.move_laws.proofs.Prelude.refusal
use Rattle.move_laws.proofs.Firsts.{free-of, neither, not-false, test-false}

-- with operations that have `Held` and are listed, over a list that is free
pub begins-with : (w : World) (b : BookState) (jobs : List Job) (list : List ServerNo) (id wait : ℕ) (ops : List Op)
    → are_held (footing w []) ops ≡ true → are_matched (matched_in []) ops ≡ true → are_listed list ops ≡ true → first_about (busy b) list ≡ None
    → Begins w jobs (leases_of b.leases) list (job_with id wait ops)
begins-with w b jobs list id wait ops held matched listed free = record {
  seen = refl;
  hands = refl;
  left = held;
  found = refl;
  matched = matched;
  listed = listed;
  free = λ n is. free-of b list free n is;
}

-- ---- what the book shows

-- an attached source is a source
attached-source : (s : SourceState) (m : ServerNo) → attached_in s ≡ Some m → source_in s ≡ Some m
attached-source Without m h = cc
attached-source (Attached k) m h = h
attached-source (Detached k) m h = cc

pub known-source : (b : BookState) (n m : ServerNo) → attached_of b n ≡ Some m → source_of b n ≡ Some m
known-source b n m h = attached-source (seen_source (instance_at b n)) m h

-- the source of the source, if that one is attached
pub above-by : (b : BookState) (i x g : ServerNo) → source_of b i ≡ Some x → option_and_then (attached_of b) (source_of b i) ≡ Some g → source_above b i ≡ Some g
above-by b i x g at_x at_g =
    let here : attached_of b x ≡ Some g = sym (ap (option_and_then (attached_of b)) at_x) ∙ at_g in
    ap (option_and_then (source_of b)) at_x ∙ known-source b x g here

-- ---- a server moves below another one

module _ (w : World) (b : BookState) where
  -- a server has its own server_id
  apart-ids : (n m : ServerNo) → n.0 ≡ m.0 → same_id w n m ≡ true
  apart-ids n m e = eq-eqb (id_in (server_at w n.0)) (id_in (server_at w m.0)) (ap (λ k. id_in (server_at w k)) e)

  -- so one that is its own source can't go to that one's source
  pub apart-by : (i x g : ServerNo) → source_of b i ≡ Some x → source_above b i ≡ Some g → same_id w i g ≡ false → (i.0 == x.0) ≡ false
  apart-by i x g at_x at_g ids = go (i.0 == x.0) refl
    where
      go : (c : Bool) → (i.0 == x.0) ≡ c → c ≡ false
      go false e = refl
      go true e =
          let same : i.0 ≡ x.0 = eqb-true i.0 x.0 e in
          let own : source_of b x ≡ Some x = ap (λ n. source_in (seen_source (slice_index_or b.instances n None))) (sym same) ∙ at_x in
          let x_is : Some x ≡ Some g = sym own ∙ sym (ap (option_and_then (source_of b)) at_x) ∙ at_g in
          let g_is : i.0 ≡ g.0 = same ∙ ap (λ (n : ServerNo). n.0) (same_Some x g x_is) in
          absurd (false≢true (sym ids ∙ apart-ids i g g_is))

  attached-is : (i x : ServerNo) (s : SourceState) → is_attached_to i s ≡ true → source_in s ≡ Some x → i.0 ≡ x.0
  attached-is i x Without h e = absurd (false≢true h)
  attached-is i x (Attached m) h e = sym (eqb-true m.0 i.0 h) ∙ ap (λ (n : ServerNo). n.0) (same_Some m x e)
  attached-is i x (Detached m) h e = absurd (false≢true h)

  -- nor can it as one of its own replicas
  replica-apart : (i x r : ServerNo) → source_of b i ≡ Some x → is_replica_of b i r ≡ true → same_id w r x ≡ false → (r.0 == i.0) ≡ false
  replica-apart i x r at_x replica ids = go (r.0 == i.0) refl
    where
      go : (c : Bool) → (r.0 == i.0) ≡ c → c ≡ false
      go false e = refl
      go true e =
          let same : r.0 ≡ i.0 = eqb-true r.0 i.0 e in
          let own : is_replica_of b i i ≡ true = ap (λ n. is_attached_to i (seen_source (slice_index_or b.instances n None))) (sym same) ∙ replica in
          let x_is : i.0 ≡ x.0 = attached-is i x (seen_source (instance_at b i)) own at_x in
          absurd (false≢true (sym ids ∙ apart-ids r x (same ∙ x_is)))

  pub replicas-apart : (i x : ServerNo) (rs : List ServerNo) → source_of b i ≡ Some x → All (λ r. is_replica_of b i r ≡ true) rs
      → first_about (of_same_id w) (moves_to rs (Some x)) ≡ None → All (λ r. (r.0 == i.0) ≡ false) rs
  replicas-apart i x [] at_x replicas h = All-nil (λ (r : ServerNo). (r.0 == i.0) ≡ false)
  replicas-apart i x (r ∷ rs) at_x replicas h =
      let parts = neither (of_same_id w (record { no = r; source = x })) (first_about (of_same_id w) (moves_to rs (Some x))) h in
      let ids = test-false (same_id w r x) (refusal.SameServerId r) parts.0 in
      All-cons (λ (n : ServerNo). (n.0 == i.0) ≡ false) r rs
      (replica-apart i x r at_x (All-head (λ (n : ServerNo). is_replica_of b i n ≡ true) r rs replicas) ids)
      (replicas-apart i x rs at_x (All-tail (λ (n : ServerNo). is_replica_of b i n ≡ true) r rs replicas) parts.1)

  pub same-apart : (i : ServerNo) (o : Option ServerNo) (g : ServerNo) → o ≡ Some g → first_about (of_same_id w) (moves_to (i ∷ []) o) ≡ None → same_id w i g ≡ false
  same-apart i o g e h =
      let at : first_about (of_same_id w) (moves_to (i ∷ []) (Some g)) ≡ None = ap (λ x. first_about (of_same_id w) (moves_to (i ∷ []) x)) (sym e) ∙ h in
      test-false (same_id w i g) (refusal.SameServerId i) (neither (of_same_id w (record { no = i; source = g })) None at).0

  pub logging : (d : ServerNo) (ds : List ServerNo) → first_about (without_log w) (d ∷ ds) ≡ None → logs_at w d.0 ≡ true
  logging d ds h =
      by_test (has_log w d) (logs_at w d.0) (same-log (server_at w d.0))
      (test-false (not (has_log w d)) refusal.DestNotLogging (neither (without_log w d) (first_about (without_log w) ds) h).0)
    where
      same-log : (s : Option AServer) → logs_in s ≡ logs_by s
      same-log None = refl
      same-log (Some s) = refl

      by_test : (a c : Bool) → a ≡ c → not a ≡ false → c ≡ true
      by_test a c e h = sym e ∙ not-false a h
