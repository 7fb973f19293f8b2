-- Kept rows follow a book from its loading on, through each change.
pub use Rattle.instance_keeper.proofs.KeptRows.Same.{eq_is as is_eq}
pub use Rattle.instance_keeper.proofs.Steady.{HasSameServers, same-change, same-put}
use Rattle.std.proofs.Common.{◌≡◌, ◌∙◌, ℕ, ◌<◌, ◌^◌, Bool, true, false, List, [], ◌∷◌, length, map, refl, sym, ap, subst, Option, Some, None, zero, suc, arith, All, ◌&&◌, ◌==◌, filter, filter_map, fold, option_map, replicate, if◌then◌else◌}
use Rattle.opening_book.proofs.Prelude.{All-cons, All-head, All-nil, All-tail, BookState, Bridge, Change, Follow, HostPort, Instance, IsBook}
use Rattle.opening_book.proofs.Prelude.{IsIdInRange, IsInRange, IsKeptFor, IsRising, Recovery, RecoveryRow, Row, ServerNo, Settings, above as apart}
use Rattle.opening_book.proofs.Prelude.{after_addition, after_change, after_opening, after_put, after_row, are_known, as_row, book_change, book_put}
use Rattle.opening_book.proofs.Prelude.{book_rows, change_is, changed, changed_by, changed_by_rising, counts, empty_book, empty_is, false≢true, fits}
use Rattle.opening_book.proofs.Prelude.{greatest_id, is_for_book, is_in_range, is_opening_change, length-map, length-set, loaded, map_of}
use Rattle.opening_book.proofs.Prelude.{map_of_rising, no_recovery, opened_book, pairs_head, pairs_tail, put_recovery, ring_at, ringed, row_after}
use Rattle.opening_book.proofs.Prelude.{row_fits, row_in, row_in-changed_by, row_in-map_of, row_in-put, servers_of, shown_by, sort_key, sort_key_of}
use Rattle.opening_book.proofs.Prelude.{with_bridge}
use Rattle.opening_book.proofs.Prelude.change
use Rattle.opening_book.proofs.Prelude.row

-- the row of a sort key that passes a test

abbrev pick : (Row → Bool) → ℕ → Option Row → Row → Option Row
pick test p kept r = if test r && (sort_key_of r == p) then Some r else kept

abbrev picked : (Row → Bool) → ℕ → Option Row → List Row → Option Row
picked test p kept rows = fold (pick test p) kept rows

abbrev pub passing : (Row → Bool) → Option Row → Option Row
passing test None = None
passing test (Some r) = if test r then Some r else None

unpicked : (b e : Bool) (r : Row) (kept : Option Row) → e ≡ false → (if b && e then Some r else kept) ≡ kept
unpicked true e r kept h = rw h refl
unpicked false e r kept h = refl

picked-above : (test : Row → Bool) (p : ℕ) (kept : Option Row) (rows : List Row) → All (λ x. p < sort_key_of x) rows → picked test p kept rows ≡ kept
picked-above test p kept [] all = refl
picked-above test p kept (r ∷ rows) all =
    ap (λ (k : Option Row). picked test p k rows) (unpicked (test r) (sort_key_of r == p) r kept (apart p (sort_key_of r) (All-head (λ x. p < sort_key_of x) r rows all)))
    ∙ picked-above test p kept rows (All-tail (λ x. p < sort_key_of x) r rows all)

pub rest_rising : (r : Row) (rows : List Row) → IsRising (r ∷ rows) → IsRising rows
rest_rising r rows rising = record { apart = pairs_tail (λ a b. sort_key_of a < sort_key_of b) r rows rising.apart }

picked-rising : (test : Row → Bool) (p : ℕ) (rows : List Row) → IsRising rows → picked test p None rows ≡ passing test (row_in rows p)
picked-rising test p [] rising = refl
picked-rising test p (r ∷ rows) rising = go (picked-rising test p rows (rest_rising r rows rising)) (sort_key_of r == p) refl (test r) refl
  where
    above : All (λ x. sort_key_of r < sort_key_of x) rows
    above = pairs_head (λ a b. sort_key_of a < sort_key_of b) r rows rising.apart

    go : picked test p None rows ≡ passing test (row_in rows p) → (e : Bool) → (sort_key_of r == p) ≡ e → (b : Bool) → test r ≡ b → picked test p (if b && e then Some r else None) rows ≡ passing test (if e then Some r else row_in rows p)
    go rest true here true holds =
        picked-above test p (Some r) rows (subst (λ n. All (λ x. n < sort_key_of x) rows) (is_eq (sort_key_of r) p here) above) ∙ sym (rw holds refl)
    go rest true here false fails =
        picked-above test p None rows (subst (λ n. All (λ x. n < sort_key_of x) rows) (is_eq (sort_key_of r) p here) above) ∙ sym (rw fails refl)
    go rest false here true holds = rest
    go rest false here false fails = rest

passing-all : (x : Option Row) → passing (λ r. true) x ≡ x
passing-all None = refl
passing-all (Some r) = refl

-- the map of rising rows has them
pub map_of-rising : (rows : List Row) (p : ℕ) → IsRising rows → row_in (map_of rows) p ≡ row_in rows p
map_of-rising rows p rising = row_in-map_of rows p ∙ picked-rising (λ r. true) p rows rising ∙ passing-all (row_in rows p)

-- the rows of a book that is made of those that count

IsLike : ℕ → BookState → Type 0
IsLike count b = IsBook b × (length b.names ≡ count)

taken : (count : ℕ) (b : BookState) (r : Row) → IsLike count b → row_fits count r ≡ true → IsLike count (after_put b r)
unfolding IsLike
taken count b r like fit =
    let fit' = subst (λ n. row_fits n r ≡ true) (sym like.1) fit in
    (change_is b (change.Put r) like.0 fit', ap length (same-put b r).names ∙ like.1)

after_row-fits : (count : ℕ) (b : BookState) (r : Row) → IsLike count b → row_fits count r ≡ true → after_row b r ≡ after_put b r
unfolding IsLike
after_row-fits count b r like fit = let fit' = subst (λ n. row_fits n r ≡ true) (sym like.1) fit in rw fit' refl

after_row-not : (count : ℕ) (b : BookState) (r : Row) → IsLike count b → row_fits count r ≡ false → after_row b r ≡ b
unfolding IsLike
after_row-not count b r like fit = let fit' = subst (λ n. row_fits n r ≡ false) (sym like.1) fit in rw fit' refl

row_put : (count : ℕ) (b : BookState) (r : Row) (p : ℕ) → IsLike count b → row_fits count r ≡ true → row_in (book_rows (after_put b r)) p ≡ (if sort_key_of r == p then Some r else row_in (book_rows b) p)
unfolding IsLike
row_put count b r p like fit =
    let fit' = subst (λ n. row_fits n r ≡ true) (sym like.1) fit in
    ap (λ (rows : List Row). row_in rows p) (book_put b like.0 r fit') ∙ row_in-put (book_rows b) r p

abbrev both : ℕ → ℕ → Row → Bool
both count until r = counts count until r && row_fits count r

-- taking rows one after another
made-rows : (count until : ℕ) (b : BookState) (rows : List Row) (p : ℕ) → IsLike count b
    → IsLike count (fold after_row b (filter (counts count until) rows)) × (row_in (book_rows (fold after_row b (filter (counts count until) rows))) p ≡ picked (both count until) p (row_in (book_rows b) p) rows)
made-rows count until b [] p like = (like, refl)
made-rows count until b (r ∷ rows) p like = go (λ x. made-rows count until x rows p) (counts count until r) (row_fits count r) refl
  where
    go : ((x : BookState) → IsLike count x → IsLike count (fold after_row x (filter (counts count until) rows)) × (row_in (book_rows (fold after_row x (filter (counts count until) rows))) p ≡ picked (both count until) p (row_in (book_rows x) p) rows))
        → (c f : Bool) → row_fits count r ≡ f
        → IsLike count (fold after_row b (if c then r ∷ filter (counts count until) rows else filter (counts count until) rows))
        × (row_in (book_rows (fold after_row b (if c then r ∷ filter (counts count until) rows else filter (counts count until) rows))) p ≡ picked (both count until) p (if (c && f) && (sort_key_of r == p) then Some r else row_in (book_rows b) p) rows)
    go more false f fit = more b like
    go more true false fit =
        let same = after_row-not count b r like fit in
        let rest = more b like in (
          subst (λ x. IsLike count (fold after_row x (filter (counts count until) rows))) (sym same) rest.0,
          ap (λ (x : BookState). row_in (book_rows (fold after_row x (filter (counts count until) rows))) p) same ∙ rest.1,
        )
    go more true true fit =
        let new = after_row-fits count b r like fit in
        let rest = more (after_put b r) (taken count b r like fit) in (
          subst (λ x. IsLike count (fold after_row x (filter (counts count until) rows))) (sym new) rest.0,
          ap (λ (x : BookState). row_in (book_rows (fold after_row x (filter (counts count until) rows))) p) new ∙ rest.1 ∙ ap (λ (x : Option Row). picked (both count until) p x rows) (row_put count b r p like fit),
        )

-- a row that counts and is of a book's table is one that the book takes
both-is : (count until : ℕ) (r : Row) → both count until r ≡ is_for_book count r
both-is count until r = by r
  where
    same : (k i : Bool) → (k && i) && (true && k) ≡ true && (k && i)
    same true true = refl
    same true false = refl
    same false i = refl

    neither : (k i j : Bool) → (k && i) && (false && k) ≡ false && (k && j)
    neither true true j = refl
    neither true false j = refl
    neither false i j = refl

    by : (r : Row) → both count until r ≡ is_for_book count r
    by (row.Recovery x) = neither (are_known count (servers_of (row.Recovery x))) (is_in_range until (row.Recovery x)) (is_in_range greatest_id (row.Recovery x))
    by (row.Active node end) = neither (are_known count (servers_of (row.Active node end))) (is_in_range until (row.Active node end)) (is_in_range greatest_id (row.Active node end))
    by x = same (are_known count (servers_of x)) (is_in_range until x)

kept_for : (count until : ℕ) (x : Option Row) → IsKeptFor count x (passing (both count until) x)
kept_for count until None = tt
kept_for count until (Some r) = go (both count until r) (both-is count until r)
  where
    go : (b : Bool) → b ≡ is_for_book count r → IsKeptFor count (Some r) (if b then Some r else None)
    go true is = refl
    go false is = sym is

none-filtered : {A : Type 0} (f : A → Row) (n : ℕ) → filter_map (option_map f) (replicate n None) ≡ []
none-filtered f zero = refl
none-filtered f (suc n) = none-filtered f n

empty-rows : (settings : List Settings) (p : ℕ) → row_in (book_rows (empty_book settings)) p ≡ None
empty-rows settings p = rw (none-filtered row.Instance (length settings), none-filtered row.Downtime (length settings), none-filtered row.Candidate (length settings)) refl

-- rows follow the book that is loaded of them
pub Follow-loaded : (settings : List Settings) (until : ℕ) (rows : List Row) → length settings < 2 ^ 32 → IsRising rows → Follow rows (loaded settings until rows)
unfolding IsLike
Follow-loaded settings until rows small rising =
    let count = length settings in
    let made : (p : ℕ) → IsLike count (loaded settings until rows) × (row_in (book_rows (loaded settings until rows)) p ≡ picked (both count until) p (row_in (book_rows (empty_book settings)) p) (map_of rows)) =
    λ p. made-rows count until (empty_book settings) (map_of rows) p (empty_is settings small, length-map settings (λ s. s.name)) in
    let look : (p : ℕ) → row_in (book_rows (loaded settings until rows)) p ≡ passing (both count until) (row_in rows p) = λ p.
    (made p).1 ∙ ap (λ (x : Option Row). picked (both count until) p x (map_of rows)) (empty-rows settings p)
    ∙ picked-rising (both count until) p (map_of rows) (map_of_rising rows) ∙ ap (passing (both count until)) (map_of-rising rows p rising) in
    record {
      rising = rising;
      book = (made 0).0.0;
      each = λ p. subst (λ n. IsKeptFor n (row_in rows p) (row_in (book_rows (loaded settings until rows)) p)) (sym (made 0).0.1)
          (subst (IsKeptFor count (row_in rows p)) (sym (look p)) (kept_for count until (row_in rows p)));
    }

kept_changed : (count p : ℕ) (x y : Option Row) (c : Change) → IsKeptFor count x y → IsKeptFor count (row_after p x c) (row_after p y c)
kept_changed count p x y (change.Put r) h = go (sort_key_of r == p)
  where
    go : (e : Bool) → IsKeptFor count (if e then Some r else x) (if e then Some r else y)
    go true = refl
    go false = h
kept_changed count p x y (change.Remove t k) h = go (sort_key t k == p)
  where
    go : (e : Bool) → IsKeptFor count (if e then None else x) (if e then None else y)
    go true = tt
    go false = h

-- and so they do after a change of both
pub Follow-changed : (rows : List Row) (b : BookState) (c : Change) → Follow rows b → fits (length b.names) c ≡ true → IsInRange c → (after_change b c).names ≡ b.names → Follow (changed_by rows c) (after_change b c)
Follow-changed rows b c follow fit range names = record {
  rising = changed_by_rising rows c follow.rising;
  book = change_is b c follow.book fit;
  each = λ p.
      subst (λ (ns : List HostPort). IsKeptFor (length ns) (row_in (changed_by rows c) p) (row_in (book_rows (after_change b c)) p)) (sym names)
      (subst (λ x. IsKeptFor (length b.names) x (row_in (book_rows (after_change b c)) p)) (sym (row_in-changed_by rows c p))
      (subst (IsKeptFor (length b.names) (row_after p (row_in rows p) c)) (sym (ap (λ (rs : List Row). row_in rs p) (book_change b follow.book c fit range) ∙ row_in-changed_by (book_rows b) c p))
      (kept_changed (length b.names) p (row_in rows p) (row_in (book_rows b) p) c (follow.each p))));
}

pub names-change : (b : BookState) (c : Change) → (after_change b c).names ≡ b.names
names-change b c = (same-change b c).names

pub Follow-change : (rows : List Row) (b : BookState) (c : Change) → Follow rows b → fits (length b.names) c ≡ true → IsInRange c → Follow (changed_by rows c) (after_change b c)
Follow-change rows b c follow fit range = Follow-changed rows b c follow fit range (names-change b c)

-- bridges are no rows
pub Follow-rings : (rows : List Row) (b : BookState) (rings : List (List Bridge)) → length rings ≡ length b.names → Follow rows b → Follow rows (record b { rings = rings })
Follow-rings rows b rings long follow =
    let is = follow.book in
    record {
      rising = follow.rising;
      book = record {
        small = is.small;
        named = is.named;
        instances = is.instances;
        downtimes = is.downtimes;
        candidates = is.candidates;
        rings = long;
        leases = is.leases;
        instance_numbers = is.instance_numbers;
        downtime_numbers = is.downtime_numbers;
        candidate_numbers = is.candidate_numbers;
        sources = is.sources;
      };
      each = follow.each;
    }

pub length-ringed : (rings : List (List Bridge)) (n : ServerNo) (shown : Option Bridge) → length (ringed rings n shown) ≡ length rings
length-ringed rings n None = refl
length-ringed rings n (Some x) = length-set rings n.0 (with_bridge (ring_at rings n) x)

pub Follow-addition : (rows : List Row) (b : BookState) (i : Instance) → Follow rows b → fits (length b.names) (change.Put (row.Instance i)) ≡ true → Follow (changed_by rows (change.Put (row.Instance i))) (after_addition b i)
Follow-addition rows b i follow fit =
    Follow-rings (changed_by rows (change.Put (row.Instance i))) (after_put b (row.Instance i)) (ringed b.rings i.no (shown_by i)) (length-ringed b.rings i.no (shown_by i) ∙ follow.book.rings)
    (Follow-change rows b (change.Put (row.Instance i)) follow fit tt)

-- no book has a recovery
pub Follow-recovery : (rows : List Row) (b : BookState) (k : RecoveryRow) → k.id < 2 ^ 64 → Follow rows b → Follow (changed_by rows (change.Put (row.Recovery k))) b
Follow-recovery rows b k small follow = record {
  rising = changed_by_rising rows (change.Put (row.Recovery k)) follow.rising;
  book = follow.book;
  each = λ p. subst (λ (x : Option Row). IsKeptFor (length b.names) x (row_in (book_rows b) p)) (sym (row_in-changed_by rows (change.Put (row.Recovery k)) p)) (go p (sort_key_of (row.Recovery k) == p) refl);
}
  where
    go : (p : ℕ) (e : Bool) → (sort_key_of (row.Recovery k) == p) ≡ e → IsKeptFor (length b.names) (if e then Some (row.Recovery k) else row_in rows p) (row_in (book_rows b) p)
    go p false is = follow.each p
    go p true is =
        let at : sort_key_of (row.Recovery k) ≡ p = is_eq (sort_key_of (row.Recovery k)) p is in
        subst (IsKeptFor (length b.names) (Some (row.Recovery k))) (sym (no_recovery b follow.book p (omega (arith, at)) (omega (arith, at, small)))) refl

-- changes that put recoveries
abbrev pub PutsRecovery : Change → Type 0
PutsRecovery c = (k : RecoveryRow) × (k.id < 2 ^ 64) × (c ≡ change.Put (row.Recovery k))

pub Follow-puts : (rows : List Row) (b : BookState) (cs : List Change) → All PutsRecovery cs → Follow rows b → Follow (changed rows cs) b
Follow-puts rows b [] all follow = follow
Follow-puts rows b (c ∷ cs) all follow =
    let here = All-head PutsRecovery c cs all in
    Follow-puts (changed_by rows c) b cs (All-tail PutsRecovery c cs all)
    (subst (λ (x : Change). Follow (changed_by rows x) b) (sym here.2) (Follow-recovery rows b here.0 here.1 follow))

put-recoveries : (rs : List Recovery) → All (λ r. r.id < 2 ^ 64) rs → All PutsRecovery (map put_recovery rs)
put-recoveries [] small = All-nil PutsRecovery
put-recoveries (r ∷ rs) small =
    All-cons PutsRecovery (put_recovery r) (map put_recovery rs) (as_row r, All-head (λ (x : Recovery). x.id < 2 ^ 64) r rs small, refl)
    (put-recoveries rs (All-tail (λ (x : Recovery). x.id < 2 ^ 64) r rs small))

pub Follow-recoveries : (rows : List Row) (b : BookState) (rs : List Recovery) → All (λ r. r.id < 2 ^ 64) rs → Follow rows b → Follow (changed rows (map put_recovery rs)) b
Follow-recoveries rows b rs small follow = Follow-puts rows b (map put_recovery rs) (put-recoveries rs small) follow

-- and so they do after a change of the opening
pub Follow-opening : (rows : List Row) (b : BookState) (c : Change) → Follow rows b → is_opening_change (length b.names) c ≡ true → IsInRange c → IsIdInRange c → Follow (changed_by rows c) (after_opening b c)
Follow-opening rows b (change.Remove t k) follow fit range id = Follow-change rows b (change.Remove t k) follow fit range
Follow-opening rows b (change.Put (row.Instance i)) follow fit range id = Follow-addition rows b i follow fit
Follow-opening rows b (change.Put (row.Recovery k)) follow fit range id = Follow-recovery rows b k id follow
Follow-opening rows b (change.Put (row.Active node until)) follow fit range id = absurd (false≢true fit)
Follow-opening rows b x follow fit range id = Follow-change rows b x follow fit range

pub names-opening : (b : BookState) (c : Change) → (after_opening b c).names ≡ b.names
names-opening b (change.Remove t k) = names-change b (change.Remove t k)
names-opening b (change.Put (row.Instance i)) = refl
names-opening b _ = refl

-- changes of an opening
abbrev pub Takes : ℕ → Change → Type 0
Takes count c = (is_opening_change count c ≡ true) × IsInRange c × IsIdInRange c

pub Follow-opened : (rows : List Row) (b : BookState) (cs : List Change) → Follow rows b → All (Takes (length b.names)) cs → Follow (changed rows cs) (opened_book b cs)
Follow-opened rows b [] follow all = follow
Follow-opened rows b (c ∷ cs) follow all =
    let here = All-head (Takes (length b.names)) c cs all in
    Follow-opened (changed_by rows c) (after_opening b c) cs (Follow-opening rows b c follow here.0 here.1 here.2)
    (subst (λ ns. All (Takes (length ns)) cs) (sym (names-opening b c)) (All-tail (Takes (length b.names)) c cs all))
