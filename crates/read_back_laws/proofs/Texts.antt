-- A dump's numbers have 64 bits, its labels rise, and its texts are UTF-8.
use Rattle.std.proofs.Common.{◌≡◌, ◌<◌, ◌≤◌, ◌^◌, ℕ, List, map, All, Option, Some, None, get_or, refl, ap, arith, slice_get}
use Rattle.read_back_laws.proofs.Prelude.{HasNumbers, HasTexts, IsChecked, IsReadable, Scenario, ServerInit, ServerNo, World, count_of, count_under, opening_of}
use Rattle.read_back_laws.proofs.Prelude.{slice_get-get_or}
use Rattle.read_back_laws.proofs.Heads.{SaysReadable}
use Rattle.read_back_laws.proofs.Listed.{AllReadBack}
use Rattle.read_back_laws.proofs.ReadData.{rise-between}
use Rattle.read_back_laws.proofs.Sizes.{few-executed, points-within}

all-from : {A : Type 0} (P : A → Type 0) (xs : List A) → ((n : ℕ) (x : A) → slice_get xs n ≡ Some x → P x) → All P xs
all-from P xs each = λ k d less. each k (get_or xs k d) (slice_get-get_or xs k d less)

module _ (s : Scenario) (w : World) (checked : IsChecked (opening_of w)) (able : AllReadBack (opening_of w).servers) (says : SaysReadable s) where
  executed-small : (n : ℕ) (i : ServerInit) → slice_get (opening_of w).servers n ≡ Some i → i.executed < 2 ^ 64
  executed-small n i at = go i.source refl
    where
      go : (o : Option ServerNo) → i.source ≡ o → i.executed < 2 ^ 64
      go None none = let zero : i.executed ≡ 0 = ((checked.listed.each n i at).alone none).executed in omega arith
      go (Some m) some =
          let few = few-executed (opening_of w) checked n i at in
          let same : count_of i ≡ i.executed = ap (count_under i) some in
          omega arith

  numbers-of : (n : ℕ) (i : ServerInit) → slice_get (opening_of w).servers n ≡ Some i → HasNumbers i
  numbers-of n i at =
      let fits = checked.listed.each n i at in
      let reads = able n i at in
      let few = few-executed (opening_of w) checked n i at in
      record {
        limit = let most = fits.limit_high in omega arith;
        id = let most = reads.settings.id in omega arith;
        purged = let most = reads.purged in omega arith;
        executed = executed-small n i at;
        flushes = λ k d less. let most = points-within (opening_of w) checked n i at k d less in omega arith;
        sizes = λ k d less. let p = fits.parts k d less in let most = p.size in omega arith;
        counts = λ k d less. let p = fits.parts k d less in let most = p.few in omega arith;
      }

  pub dump-numbers : (now : ℕ) → now ≤ 1000000000000000 → IsReadable w s now
  dump-numbers now early = record {
    moment = omega arith;
    nodes = let most = says.few_nodes in omega arith;
    pseudo = let most = says.pseudo in omega arith;
    block = let most = says.block in omega arith;
    periods = λ k d less. let most = (says.blocks k d less).seconds in omega arith;
    servers = all-from HasNumbers (opening_of w).servers numbers-of;
    aliases = rise-between (map (λ a. a.cluster) s.aliases) says.aliases_rise;
    blocks = rise-between (map (λ b. b.cluster) s.blocks) says.blocks_rise;
    pre_failover = λ k d less. let most = (says.hooks.pre_failover k d less).exit in omega arith;
    post_failover = λ k d less. let most = (says.hooks.post_failover k d less).exit in omega arith;
    post_unsuccessful = λ k d less. let most = (says.hooks.post_unsuccessful k d less).exit in omega arith;
  }

  pub dump-texts : HasTexts w s
  dump-texts = record {
    names = all-from _ (opening_of w).servers (λ n i at. (able n i at).settings.name);
    labels = all-from _ (opening_of w).servers (λ n i at. (able n i at).settings.cluster_text);
    centres = all-from _ (opening_of w).servers (λ n i at. (able n i at).settings.dc_text);
    clusters = λ k d less. (says.aliases k d less).cluster.text;
    aliases = λ k d less. (says.aliases k d less).text;
    blocked = λ k d less. (says.blocks k d less).cluster.text;
    master = says.master_texts;
    intermediate = says.intermediate_texts;
    pre_failover = λ k d less. (says.hooks.pre_failover k d less).text;
    post_failover = λ k d less. (says.hooks.post_failover k d less).text;
    post_unsuccessful = λ k d less. (says.hooks.post_unsuccessful k d less).text;
  }
