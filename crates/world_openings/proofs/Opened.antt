-- The servers of a world that an opening opens.
use Rattle.std.proofs.Common.{◌≡◌, ℕ, ◌+◌, List, [], ◌∷◌, length, refl, sym, ◌∙◌, ap, Some, arith, zero, suc, zero-add, slice_get}
use Rattle.world_openings.proofs.Prelude.{Opened, Server, ServerInit, opened_from, opened_server, opened_world, same_Some, server_at}

pub slice_get-opened_from : (servers : List ServerInit) (room flushes k : ℕ) (is : List ServerInit) (j : ℕ) (i : ServerInit) → slice_get is j ≡ Some i
    → slice_get (opened_from servers room flushes k is) j ≡ Some (opened_server servers room flushes (k + j) i)
slice_get-opened_from servers room flushes k [] j i h = cc
slice_get-opened_from servers room flushes k (x ∷ is) zero i h =
    let number : k ≡ k + 0 = omega arith in
    ap (λ m. Some (opened_server servers room flushes m x)) number ∙ ap (λ y. Some (opened_server servers room flushes (k + 0) y)) (same_Some x i h)
slice_get-opened_from servers room flushes k (x ∷ is) (suc j) i h =
    let number : k + 1 + j ≡ k + suc j = omega arith in
    slice_get-opened_from servers room flushes (k + 1) is j i h ∙ ap (λ m. Some (opened_server servers room flushes m i)) number

-- a server of an opened world as it was given
pub record Given (servers : List ServerInit) (room flushes : ℕ) (is : List ServerInit) (number at : ℕ) (s : Server) : Type 0 where
  pub init : ServerInit
  pub place : slice_get is at ≡ Some init
  pub is_opened : s ≡ opened_server servers room flushes number init

given-opened_from : (servers : List ServerInit) (room flushes k : ℕ) (is : List ServerInit) (j : ℕ) (s : Server) → slice_get (opened_from servers room flushes k is) j ≡ Some s
    → Given servers room flushes is (k + j) j s
given-opened_from servers room flushes k [] j s h = cc
given-opened_from servers room flushes k (x ∷ is) zero s h =
    let number : k ≡ k + 0 = omega arith in
    record { init = x; place = refl; is_opened = sym (same_Some (opened_server servers room flushes k x) s h) ∙ ap (λ m. opened_server servers room flushes m x) number }
given-opened_from servers room flushes k (x ∷ is) (suc j) s h =
    let number : k + 1 + j ≡ k + suc j = omega arith in
    let rest = given-opened_from servers room flushes (k + 1) is j s h in
    record { init = rest.init; place = rest.place; is_opened = rest.is_opened ∙ ap (λ m. opened_server servers room flushes m rest.init) number }

pub length-opened_from : (servers : List ServerInit) (room flushes k : ℕ) (is : List ServerInit) → length (opened_from servers room flushes k is) ≡ length is
length-opened_from servers room flushes k [] = refl
length-opened_from servers room flushes k (i ∷ is) = ap suc (length-opened_from servers room flushes (k + 1) is)

pub server_at-opened : (o : Opened) (room flushes n : ℕ) (i : ServerInit) → slice_get o.servers n ≡ Some i → server_at (opened_world o room flushes) n ≡ Some (opened_server o.servers room flushes n i)
server_at-opened o room flushes n i h =
    slice_get-opened_from o.servers room flushes 0 o.servers n i h ∙ ap (λ m. Some (opened_server o.servers room flushes m i)) (zero-add n)

pub given-opened : (o : Opened) (room flushes n : ℕ) (s : Server) → server_at (opened_world o room flushes) n ≡ Some s → Given o.servers room flushes o.servers n n s
given-opened o room flushes n s h =
    let g = given-opened_from o.servers room flushes 0 o.servers n s h in
    record { init = g.init; place = g.place; is_opened = g.is_opened ∙ ap (λ m. opened_server o.servers room flushes m g.init) (zero-add n) }
