-- Stages that were taken: joined, cut, and as one run of turns.
use Rattle.std.proofs.Common.{◌≡◌, ◌∙◌, List, [], ◌∷◌, ◌++◌, take, refl, sym, ap, subst, arith, append_assoc, Option, inl, inr}
use Rattle.tasks.proofs.Prelude.{AllTaken, Asked, CutTaken, GivesUpOn, IsEnd, Ran, Ran-append, Ran-nil, Recorded, Row, SomeTaken, Stage, StopsIn}
use Rattle.tasks.proofs.Prelude.{Turn, TurnFault, recorder, stages}
use Rattle.tasks.proofs.Prelude.fault

-- ---- nothing is taken

pub end_ran : (kept : Option (List Row)) (run : Recorded) (rows : Option (List Row)) (mid : Recorded) (ts : List Turn) → IsEnd kept run rows mid ts → Ran recorder rows mid ts kept run
end_ran kept run rows mid ts end =
    subst (λ (us : List Turn). Ran recorder rows mid us kept run) (sym end.none)
    (subst (λ (o : Option (List Row)). Ran recorder rows mid [] o run) end.rows_are (subst (λ (r : Recorded). Ran recorder rows mid [] rows r) end.run_is (Ran-nil recorder rows mid)))

-- some of any stages are none of them
pub none_taken : (kept : Option (List Row)) (run : Recorded) (xs : List Stage) (rows : Option (List Row)) (mid : Recorded) (ts : List Turn) → IsEnd kept run rows mid ts → SomeTaken kept run xs rows mid ts
none_taken kept run [] rows mid ts end = end
none_taken kept run (x ∷ xs) rows mid ts end =
    inl (record { k = 0; within = omega arith; ran = subst (λ (us : List Turn). Ran recorder rows mid us kept run) end.none (end_ran kept run rows mid ts end); are = end.none })

-- if no stages follow
pub all_of_none : (a : Asked) (kept : Option (List Row)) (run : Recorded) → stages a ≡ [] → AllTaken kept run (stages a) kept run []
all_of_none a kept run is = subst (λ (xs : List Stage). AllTaken kept run xs kept run []) (sym is) (record { none = refl; rows_are = refl; run_is = refl })

-- ---- all are some

pub all_some : (kept : Option (List Row)) (run : Recorded) (xs : List Stage) (rows : Option (List Row)) (mid : Recorded) (ts : List Turn) → AllTaken kept run xs rows mid ts → SomeTaken kept run xs rows mid ts
all_some kept run [] rows mid ts all = all
all_some kept run (x ∷ xs) rows mid ts all = inr (record { at_rows = all.at_rows; at = all.at; taken = all.taken; rest = all.rest; on = all_some kept run xs all.at_rows all.at all.rest all.on; are = all.are })

-- ---- stages after others

module _ (P : Option (List Row) → Recorded → List Turn → Type 0) (at_kept : Option (List Row)) (at : Recorded) (us : List Turn) (next : P at_kept at us) where
  ended : (rows : Option (List Row)) (mid : Recorded) (ts : List Turn) → IsEnd at_kept at rows mid ts → P rows mid (ts ++ us)
  ended rows mid ts end =
      subst (λ (vs : List Turn). P rows mid (vs ++ us)) (sym end.none) (subst (λ (o : Option (List Row)). P o mid us) (sym end.rows_are) (subst (λ (r : Recorded). P at_kept r us) (sym end.run_is) next))

module _ (kept : Option (List Row)) (run : Recorded) (ys : List Stage) (at_kept : Option (List Row)) (at : Recorded) (us : List Turn) where
  joined : (x : Stage) (mid : Recorded) (ts rest : List Turn) → ts ≡ x mid ++ rest → ts ++ us ≡ x mid ++ (rest ++ us)
  joined x mid ts rest are = ap (λ (vs : List Turn). vs ++ us) are ∙ append_assoc (x mid) rest us

  pub all_behind : (xs : List Stage) (rows : Option (List Row)) (mid : Recorded) (ts : List Turn) → AllTaken at_kept at xs rows mid ts → AllTaken kept run ys at_kept at us → AllTaken kept run (xs ++ ys) rows mid (ts ++ us)
  all_behind [] rows mid ts end next = ended (AllTaken kept run ys) at_kept at us next rows mid ts end
  all_behind (x ∷ xs) rows mid ts all next = record {
    at_rows = all.at_rows;
    at = all.at;
    taken = all.taken;
    rest = all.rest ++ us;
    on = all_behind xs all.at_rows all.at all.rest all.on next;
    are = joined x mid ts all.rest all.are;
  }

  pub some_behind : (xs : List Stage) (rows : Option (List Row)) (mid : Recorded) (ts : List Turn) → AllTaken at_kept at xs rows mid ts → SomeTaken kept run ys at_kept at us → SomeTaken kept run (xs ++ ys) rows mid (ts ++ us)
  some_behind [] rows mid ts end next = ended (SomeTaken kept run ys) at_kept at us next rows mid ts end
  some_behind (x ∷ xs) rows mid ts all next = inr (record {
    at_rows = all.at_rows;
    at = all.at;
    taken = all.taken;
    rest = all.rest ++ us;
    on = some_behind xs all.at_rows all.at all.rest all.on next;
    are = joined x mid ts all.rest all.are;
  })

  pub cut_behind : (xs : List Stage) (rows : Option (List Row)) (mid : Recorded) (ts : List Turn) → AllTaken at_kept at xs rows mid ts → CutTaken kept run ys at_kept at us → CutTaken kept run (xs ++ ys) rows mid (ts ++ us)
  cut_behind [] rows mid ts end next = ended (CutTaken kept run ys) at_kept at us next rows mid ts end
  cut_behind (x ∷ xs) rows mid ts all next = inr (record {
    at_rows = all.at_rows;
    at = all.at;
    taken = all.taken;
    rest = all.rest ++ us;
    on = cut_behind xs all.at_rows all.at all.rest all.on next;
    are = joined x mid ts all.rest all.are;
  })

-- ---- some of the first stages

module _ (kept : Option (List Row)) (run : Recorded) (ys : List Stage) where
  pub some_first : (xs : List Stage) (rows : Option (List Row)) (mid : Recorded) (ts : List Turn) → SomeTaken kept run xs rows mid ts → SomeTaken kept run (xs ++ ys) rows mid ts
  some_first [] rows mid ts end = none_taken kept run ys rows mid ts end
  some_first (x ∷ xs) rows mid ts (inl in_it) = inl in_it
  some_first (x ∷ xs) rows mid ts (inr some) = inr (record { at_rows = some.at_rows; at = some.at; taken = some.taken; rest = some.rest; on = some_first xs some.at_rows some.at some.rest some.on; are = some.are })

  pub cut_first : (xs : List Stage) (rows : Option (List Row)) (mid : Recorded) (ts : List Turn) → CutTaken kept run xs rows mid ts → CutTaken kept run (xs ++ ys) rows mid ts
  cut_first [] rows mid ts cut = absurd cut
  cut_first (x ∷ xs) rows mid ts (inl in_it) = inl in_it
  cut_first (x ∷ xs) rows mid ts (inr cut) = inr (record { at_rows = cut.at_rows; at = cut.at; taken = cut.taken; rest = cut.rest; on = cut_first xs cut.at_rows cut.at cut.rest cut.on; are = cut.are })

-- ---- one stage

-- all of it was taken
pub one_taken : (x : Stage) (rows kept : Option (List Row)) (mid run : Recorded) → Ran recorder rows mid (x mid) kept run → AllTaken kept run (x ∷ []) rows mid (x mid ++ [])
one_taken x rows kept mid run ran = record { at_rows = kept; at = run; taken = ran; rest = []; on = record { none = refl; rows_are = refl; run_is = refl }; are = refl }

-- a turn of it gave up
pub one_stops : (x : Stage) (xs : List Stage) (rows kept : Option (List Row)) (mid : Recorded) (why : TurnFault) → GivesUpOn rows mid (x mid) kept why → StopsIn (x ∷ xs) rows mid kept why
one_stops x xs rows kept mid fault.Keeper gives = (gives.0, take gives.1.k (x mid), inl (record { cut = gives.1; are = refl }))
one_stops x xs rows kept mid fault.Memory gives = (gives.run, take gives.k (x mid), inl (record { k = gives.k; within = gives.within; ran = gives.ran; are = refl }))

pub stops_first : (xs ys : List Stage) (rows kept : Option (List Row)) (mid : Recorded) (why : TurnFault) → StopsIn xs rows mid kept why → StopsIn (xs ++ ys) rows mid kept why
stops_first xs ys rows kept mid fault.Keeper stops = (stops.0, stops.1, cut_first kept stops.0 ys xs rows mid stops.1 stops.2)
stops_first xs ys rows kept mid fault.Memory stops = (stops.0, stops.1, some_first kept stops.0 ys xs rows mid stops.1 stops.2)

pub stops_behind : (xs ys : List Stage) (rows at_kept kept : Option (List Row)) (mid at : Recorded) (ts : List Turn) (why : TurnFault) → AllTaken at_kept at xs rows mid ts → StopsIn ys at_kept at kept why → StopsIn (xs ++ ys) rows mid kept why
stops_behind xs ys rows at_kept kept mid at ts fault.Keeper all stops = (stops.0, ts ++ stops.1, cut_behind kept stops.0 ys at_kept at stops.1 xs rows mid ts all stops.2)
stops_behind xs ys rows at_kept kept mid at ts fault.Memory all stops = (stops.0, ts ++ stops.1, some_behind kept stops.0 ys at_kept at stops.1 xs rows mid ts all stops.2)

-- ---- as one run

pub some_ran : (kept : Option (List Row)) (run : Recorded) (xs : List Stage) (rows : Option (List Row)) (mid : Recorded) (ts : List Turn) → SomeTaken kept run xs rows mid ts → Ran recorder rows mid ts kept run
some_ran kept run [] rows mid ts end = end_ran kept run rows mid ts end
some_ran kept run (x ∷ xs) rows mid ts (inl in_it) = subst (λ (us : List Turn). Ran recorder rows mid us kept run) (sym in_it.are) in_it.ran
some_ran kept run (x ∷ xs) rows mid ts (inr some) =
    subst (λ (us : List Turn). Ran recorder rows mid us kept run) (sym some.are)
    (Ran-append recorder rows some.at_rows kept mid some.at run (x mid) some.rest some.taken (some_ran kept run xs some.at_rows some.at some.rest some.on))

-- those before one that was cut are some of them
pub cut_some : (kept : Option (List Row)) (run : Recorded) (xs : List Stage) (rows : Option (List Row)) (mid : Recorded) (ts : List Turn) → CutTaken kept run xs rows mid ts → SomeTaken kept run xs rows mid ts
cut_some kept run [] rows mid ts cut = absurd cut
cut_some kept run (x ∷ xs) rows mid ts (inl at) = inl (record { k = at.cut.k; within = let less = at.cut.within in omega (arith, less); ran = at.cut.comes; are = at.are })
cut_some kept run (x ∷ xs) rows mid ts (inr cut) = inr (record { at_rows = cut.at_rows; at = cut.at; taken = cut.taken; rest = cut.rest; on = cut_some kept run xs cut.at_rows cut.at cut.rest cut.on; are = cut.are })
