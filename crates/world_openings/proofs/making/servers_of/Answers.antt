use Rattle.std.proofs.Common.{◌≡◌, ℕ, List, ◌++◌, length, take, drop, sym, ◌∙◌, ap, subst, arith}
use Rattle.world_openings.proofs.Prelude.{ArePlaced, HaveLogs, Server, append-nil, drop_all, take_all}
use Rattle.world_openings.proofs.Placings.{HaveLogs-bare, ArePlaced-all}
use Rattle.world_openings.proofs.making.servers_of.Goals as goal

-- what is written back into a vector of as many
written-back : (xs ys : List Server) (n : ℕ) → n ≡ length xs → length ys ≡ length xs → take n (ys ++ drop (length ys) xs) ≡ ys
written-back xs ys n all same =
    ap (λ zs. take n (ys ++ zs)) (drop_all (length ys) xs (omega arith)) ∙ ap (take n) (append-nil ys) ∙ take_all n ys (omega arith)

pub place_servers-requires : goal.place_servers-requires
place_servers-requires c =
    subst (λ (ss : List Server). HaveLogs c.args.from.now.servers ss) (sym c.deref_mut.ensures.value)
    (HaveLogs-bare c.args.from.now c.args.room c.args.flushes c.in_ok-servers.servers.items c.in_ok-servers.ensures)

pub returns : goal.returns
returns c =
    let made = c.in_ok-servers.servers.items in
    let value = c.deref_mut.ensures.value in
    let placed : ArePlaced c.args.from.now.servers (length c.args.from.now.servers) made c.place_servers.new.servers =
    subst (λ (ss : List Server). ArePlaced c.args.from.now.servers (length c.args.from.now.servers) ss c.place_servers.new.servers) value c.place_servers.ensures in
    let size : length c.deref_mut.result.now ≡ c.in_ok-servers.servers.len = c.deref_mut.ensures.len in
    let all : c.in_ok-servers.servers.len ≡ length made = sym size ∙ ap (λ (ss : List Server). length ss) value in
    written-back made c.place_servers.new.servers c.in_ok-servers.servers.len all placed.count
    ∙ ArePlaced-all c.args.from.now c.args.room c.args.flushes made c.place_servers.new.servers c.in_ok-servers.ensures placed
