-- The servers of a dump have texts that read back.
use Rattle.std.proofs.Common.{◌≡◌, ◌∙◌, ℕ, zero, suc, true, List, [], ◌∷◌, map, Option, Some, None, IfSome, refl, sym, ap, subst, slice_get}
use Rattle.read_back_laws.proofs.Prelude.{CanPrint, Coord, IsChecked, IsTidy, IsWorldOf, IsWritten, Scenario, Server, ServerInit, ServerNo, World, init_by}
use Rattle.read_back_laws.proofs.Prelude.{init_of, opening_of, same_Some, settings_of, source_in}
use Rattle.read_back_laws.proofs.Listed.{AllReadBack}
use Rattle.read_back_laws.proofs.Servers.{SettingsReadBack, Reads}
use Rattle.read_back_laws.proofs.Sizes.{purged-low}
use Rattle.read_back_laws.proofs.Values.{CoordsRead, coord-reads}
use Rattle.read_back_laws.proofs.Wholes.{same-settings}

-- the element that gave one of a list of images
pub record IsFrom {A B : Type 0} (f : A → B) (xs : List A) (n : ℕ) (y : B) : Type 0 where
  pub from : A
  pub there : slice_get xs n ≡ Some from
  pub is : f from ≡ y

pub from-map : {A B : Type 0} (f : A → B) (xs : List A) (n : ℕ) (y : B) → slice_get (map f xs) n ≡ Some y → IsFrom f xs n y
from-map f [] n y at = absurd (cc)
from-map f (x ∷ xs) zero y at = record { from = x; there = refl; is = same_Some (f x) y at }
from-map f (x ∷ xs) (suc n) y at = let more = from-map f xs n y at in record { from = more.from; there = more.there; is = more.is }

pub map-at : {A B : Type 0} (f : A → B) (xs : List A) (n : ℕ) (x : A) → slice_get xs n ≡ Some x → slice_get (map f xs) n ≡ Some (f x)
map-at f [] n x at = absurd (cc)
map-at f (y ∷ ys) zero x at = ap (λ z. Some (f z)) (same_Some y x at)
map-at f (y ∷ ys) (suc n) x at = map-at f ys n x at

-- all settings of a scenario have texts that read back
abbrev pub SettingsRead : Scenario → Type 0
SettingsRead s = (n : ℕ) (i : ServerInit) → slice_get s.opening.servers n ≡ Some i → SettingsReadBack i.settings

if-written : CoordsRead → (o : Option Coord) → IfSome o IsWritten → IfSome o Reads
if-written law None is = tt
if-written law (Some c) is = coord-reads law c is

-- what is printed of one server alone
record TellsReadable (i : ServerInit) : Type 0 where
  at : IfSome i.at Reads
  read : IfSome i.read Reads
  until : IfSome i.until Reads
  io : i.source ≡ None → i.io ≡ true
  sql : i.source ≡ None → i.sql ≡ true

tells-by : CoordsRead → (x : Server) (o : Option ServerNo) → CanPrint x → TellsReadable (init_by x o)
tells-by law x None can = record { at = tt; read = tt; until = tt; io = λ none. refl; sql = λ none. refl }
tells-by law x (Some m) can = record {
  at = coord-reads law x.exec can.exec;
  read = coord-reads law x.read can.read;
  until = if-written law x.until can.until;
  io = λ none. cc;
  sql = λ none. cc;
}

tells : CoordsRead → (x : Server) → CanPrint x → TellsReadable (init_of x)
unfolding init_of
tells law x can = tells-by law x (source_in x.source) can

module _ (law : CoordsRead) (s : Scenario) (w : World) (of : IsWorldOf s w) (checked : IsChecked (opening_of w)) (settings : SettingsRead s) where
  given-from : (n : ℕ) (i : ServerInit) → slice_get (opening_of w).servers n ≡ Some i → IsFrom init_of w.servers n i
  unfolding opening_of
  given-from n i at = from-map init_of w.servers n i at

  own-settings : (n : ℕ) (i : ServerInit) → slice_get (opening_of w).servers n ≡ Some i → SettingsReadBack i.settings
  own-settings n i at =
      let told : slice_get (settings_of s) n ≡ Some i.settings = ap (λ xs. slice_get xs n) (sym (same-settings s w of)) ∙ map-at (λ (j : ServerInit). j.settings) (opening_of w).servers n i at in
      let from = from-map (λ (j : ServerInit). j.settings) s.opening.servers n i.settings told in
      subst SettingsReadBack from.is (settings n from.from from.there)

  pub dump-readable : AllReadBack (opening_of w).servers
  unfolding IsTidy
  dump-readable n i at =
      let from = given-from n i at in
      let told = subst TellsReadable from.is (tells law from.from (of.tidy n from.from from.there).printed) in
      record {
        settings = own-settings n i at;
        at = told.at;
        read = told.read;
        until = told.until;
        purged = purged-low (opening_of w) checked n i at;
        io = told.io;
        sql = told.sql;
      }
