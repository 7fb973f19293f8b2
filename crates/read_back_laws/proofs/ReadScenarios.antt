-- A scenario that was read reads back.
use Rattle.std.proofs.Common.{◌≡◌, ℕ, Bool, true, false, List, length, Option, Some, None, Ok, refl, sym, subst, leb, codes, if◌then◌else◌, slice_get}
use Rattle.read_back_laws.proofs.Prelude.{Data, Given, Head, HostPort, IsUtf8-from_is_utf8, Items, MAX_SCENARIO_LEN, NotJson, Scenario, ServerInit, TooLong}
use Rattle.read_back_laws.proofs.Prelude.{bind-ok, from-ok, holds, inits_of, is_utf8, json_in, made_of, opening-same, or_fails-ok, read, scenario_from}
use Rattle.read_back_laws.proofs.Prelude.{scenario_in, scenario_with, with-ok}
use Rattle.read_back_laws.proofs.Heads.{SaysReadable}
use Rattle.read_back_laws.proofs.ReadData.{IsFromText, got-read, text-read}
use Rattle.read_back_laws.proofs.ReadHeads.{IsHead, head-has}
use Rattle.read_back_laws.proofs.ReadServers.{servers-have}
use Rattle.read_back_laws.proofs.Readable.{SettingsRead}
use Rattle.read_back_laws.proofs.Servers.{SettingsReadBack}
use Rattle.read_back_laws.proofs.Wholes.{AreAnswered}

-- what a dump repeats of its scenario reads back
pub record ReadsBack (s : Scenario) : Type 0 where
  pub says : SaysReadable s
  pub own : AreAnswered s
  pub settings : SettingsRead s

with-reads_back : (head : Head) (given : List (Option HostPort) × List Given) (items : Items) (s : Scenario) → IsHead head → ((k : ℕ) (i : ServerInit) → slice_get (inits_of given.1) k ≡ Some i → SettingsReadBack i.settings)
    → scenario_with head given items ≡ Ok s → ReadsBack s
with-reads_back head given items s is settings e =
    let r = with-ok head given items s e in
    subst ReadsBack {x = made_of head given.1 r.opened r.turns} r.is (record {
      says = record {
        some_node = is.some_node;
        few_nodes = is.few_nodes;
        pseudo = is.pseudo;
        block = is.block;
        blocks = is.blocks;
        aliases = is.aliases;
        master = λ k d less. (is.master k d less).pattern;
        intermediate = λ k d less. (is.intermediate k d less).pattern;
        master_texts = λ k d less. (is.master k d less).utf8;
        intermediate_texts = λ k d less. (is.intermediate k d less).utf8;
        aliases_rise = is.aliases_rise;
        blocks_rise = is.blocks_rise;
        hooks = is.hooks;
      };
      own = refl;
      settings = subst (λ servers. (k : ℕ) (i : ServerInit) → slice_get servers k ≡ Some i → SettingsReadBack i.settings) (sym (opening-same (inits_of given.1) head.gtid r.opened r.opens)) settings;
    })

from-reads_back : (d : Data) (s : Scenario) → IsFromText d → scenario_from d ≡ Ok s → ReadsBack s
from-reads_back d s read e =
    let r = from-ok d s e in
    with-reads_back r.head r.given r.items s (head-has d r.head read r.heads) (servers-have r.head.gtid r.servers r.given (got-read (codes "servers") d r.servers read r.there) r.gives) r.whole

if-read : (b : Bool) (o : Option Data) (d : Data) → (if b then o else None) ≡ Some d → (b ≡ true) × (o ≡ Some d)
if-read true o d e = (refl, e)
if-read false o d e = absurd (cc)

-- what bytes are read as
pub reads-back : (bytes : List ℕ) (s : Scenario) → scenario_in bytes ≡ Ok s → ReadsBack s
unfolding scenario_in
reads-back bytes s e =
    let short = bind-ok (holds TooLong (leb (length bytes) MAX_SCENARIO_LEN)) _ s e in
    let d = bind-ok (json_in bytes) scenario_from s short.2 in
    let parts = if-read (is_utf8 bytes) (read bytes) d.0 (or_fails-ok NotJson (if is_utf8 bytes then read bytes else None) d.0 d.1) in
    from-reads_back d.0 s (text-read bytes d.0 (IsUtf8-from_is_utf8 bytes parts.0) parts.1) d.2
