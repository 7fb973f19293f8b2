use Rattle.std.proofs.Common.{◌≡◌, ℕ, ◌<◌, List, length, Some, ap, subst, sym, ◌∙◌, arith, get_or, true, option_map, slice_get}
use Rattle.world_openings.proofs.Prelude.{Index, IsPlacedIn, IsUnder, Log, Server, ServerInit, Settings, exec_in, exec_of, log-logged, log_at}
use Rattle.world_openings.proofs.Prelude.{read_in, read_of, slice_get-index, slice_get_within, sound_checked}
use Rattle.world_openings.proofs.OpenedWorlds.{placed-under, exec_of-under, read_of-under, read_of-root}
use Rattle.world_openings.proofs.making.standing_of.Goals.{After-source}
use Rattle.world_openings.proofs.making.standing_of.Goals as goal

-- the server as it is listed
listed-at : (inits listed : List ServerInit) (n : ℕ) (i : ServerInit) → inits ≡ listed → n < length listed → i ≡ get_or inits n i → slice_get listed n ≡ Some i
listed-at inits listed n i same within is =
    subst (λ (xs : List ServerInit). slice_get xs n ≡ Some i) same
    (slice_get-index inits n i (subst (λ (xs : List ServerInit). n < length xs) (sym same) within) is)

pub bounds-servers-m : goal.bounds-servers-m
bounds-servers-m c =
    let o = c.args.from.now in
    let at = listed-at c.servers-inits.result.now o.servers c.args.no.0 c.index-inits-no.result c.servers-inits.ensures.value c.requires.there c.index-inits-no.is in
    let u = (sound_checked o c.servers-inits.ensures.checked).under c.args.no.0 c.index-inits-no.result c.in-Some.m at c.in-Some.is in
    let within = slice_get_within o.servers c.in-Some.m.0 u.source u.there in
    let count = c.requires.logs.count in
    omega arith

-- the source's log
record Above (listed : List ServerInit) (i : ServerInit) (m : ℕ) (log : Log) : Type 0 where
  under : IsUnder listed m i
  is : log ≡ log_at listed m

above : (c : After-source) → Above c.args.from.now.servers c.index-inits-no.result c.in-Some.m.0 c.source.inside.log.log
above c =
    let o = c.args.from.now in
    let s = c.index-servers-m.result in
    let at = listed-at c.servers-inits.result.now o.servers c.args.no.0 c.index-inits-no.result c.servers-inits.ensures.value c.requires.there c.index-inits-no.is in
    let u = (sound_checked o c.servers-inits.ensures.checked).under c.args.no.0 c.index-inits-no.result c.in-Some.m at c.in-Some.is in
    let within = slice_get_within o.servers c.in-Some.m.0 u.source u.there in
    let count = c.requires.logs.count in
    let here = slice_get-index c.args.servers.now c.in-Some.m.0 s (omega arith) c.index-servers-m.is in
    let view = c.source.view_is in
    let settings = ap (λ (x : Server). x.settings) view ∙ c.requires.logs.settings c.in-Some.m.0 u.source s u.there here in
    let logs : c.source.inside.settings.logs ≡ true = ap (λ (x : Settings). x.logs) settings ∙ u.logs in
    record {
      under = u;
      is = ap (λ (x : Index). x.log) (sym (log-logged c.source.inside s view logs)) ∙ c.requires.logs.each c.in-Some.m.0 u.source s u.there here;
    }

pub standing_in-requires : goal.standing_in-requires
standing_in-requires c =
    let a = above (goal.at.standing_in-requires c).After-source in
    subst (λ (l : Log). IsPlacedIn l c.index-inits-no.result) (sym a.is)
    (placed-under c.args.from.now.servers c.index-inits-no.result c.in-Some.m c.in-Some.is a.under)

pub returns-in-None-clause-read : goal.returns-in-None-clause-read
returns-in-None-clause-read c =
    let o = c.args.from.now in
    let at = listed-at c.servers-inits.result.now o.servers c.args.no.0 c.index-inits-no.result c.servers-inits.ensures.value c.requires.there c.index-inits-no.is in
    ap (option_map (λ (i : ServerInit). read_of o.servers i)) at
    ∙ ap Some (read_of-root o.servers c.index-inits-no.result c.in-None.is ((c.servers-inits.ensures.checked.listed.each c.args.no.0 c.index-inits-no.result at).alone c.in-None.is))

pub returns-in-Some-clause-exec : goal.returns-in-Some-clause-exec
returns-in-Some-clause-exec c =
    let o = c.args.from.now in
    let at = listed-at c.servers-inits.result.now o.servers c.args.no.0 c.index-inits-no.result c.servers-inits.ensures.value c.requires.there c.index-inits-no.is in
    let a = above (goal.at.returns-in-Some-clause-exec c).After-source in
    ap (option_map (λ (i : ServerInit). exec_of o.servers i)) at
    ∙ ap Some (exec_of-under o.servers c.index-inits-no.result c.in-Some.m c.in-Some.is ∙ ap (λ (l : Log). exec_in l c.index-inits-no.result) (sym a.is) ∙ sym c.standing_in.ensures.exec)

pub returns-in-Some-clause-read : goal.returns-in-Some-clause-read
returns-in-Some-clause-read c =
    let o = c.args.from.now in
    let at = listed-at c.servers-inits.result.now o.servers c.args.no.0 c.index-inits-no.result c.servers-inits.ensures.value c.requires.there c.index-inits-no.is in
    let a = above (goal.at.returns-in-Some-clause-read c).After-source in
    ap (option_map (λ (i : ServerInit). read_of o.servers i)) at
    ∙ ap Some (read_of-under o.servers c.index-inits-no.result c.in-Some.m c.in-Some.is ∙ ap (λ (l : Log). read_in l c.index-inits-no.result) (sym a.is) ∙ sym c.standing_in.ensures.read)
