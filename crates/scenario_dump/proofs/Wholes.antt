-- The whole text, part by part.
use Rattle.std.proofs.Common.{◌≡◌, ℕ, ◌∷◌, List, [], ◌++◌, append_assoc, decimal, codes}
use Rattle.scenario_dump.proofs.Prelude.{Scenario, World, aliases_data, blocks_data, compact_text, digits, dump_data, dump_text, escape_byte}
use Rattle.scenario_dump.proofs.Prelude.{flag_text, hook_data, list_data, object, servers_text, string}
use Rattle.scenario_dump.proofs.Printed.{joined}

abbrev pub whole_parts : World → Scenario → ℕ → List (List ℕ)
whole_parts w s now =
    codes "{\"aliases\":" ∷ compact_text (object (aliases_data s.aliases)) ∷ (codes ",\"block\":" ++ decimal s.block) ∷ codes ",\"blocks\":" ∷ compact_text (object (blocks_data s.blocks))
    ∷ codes ",\"filters\":{\"intermediate\":" ∷ compact_text (list_data string s.filters.intermediate.texts) ∷ codes ",\"master\":" ∷ compact_text (list_data string s.filters.master.texts)
    ∷ (codes "},\"gtid\":" ++ flag_text w.gtid) ∷ codes ",\"hooks\":{\"post_failover\":" ∷ compact_text (list_data hook_data s.hooks.post_failover)
    ∷ codes ",\"post_unsuccessful\":" ∷ compact_text (list_data hook_data s.hooks.post_unsuccessful) ∷ codes ",\"pre_failover\":" ∷ compact_text (list_data hook_data s.hooks.pre_failover)
    ∷ (codes "},\"nodes\":" ++ decimal s.nodes) ∷ (codes ",\"now\":" ++ decimal now) ∷ (codes ",\"pseudo\":" ++ decimal s.pseudo) ∷ codes ",\"servers\":" ∷ servers_text w ∷ codes ",\"turns\":[],\"version\":1}\n" ∷ []

whole_shape : (a b p i m g x y z k n e s : List ℕ)
    → codes "{\"aliases\":" ++ (a ++ (codes ",\"block\":" ++ (b ++ (codes ",\"blocks\":" ++ (p ++ (codes ",\"filters\":" ++ ((codes "{\"intermediate\":" ++ (i ++ (codes ",\"master\":" ++ (m ++ codes "}"))))
    ++ (codes ",\"gtid\":" ++ (g ++ (codes ",\"hooks\":" ++ ((codes "{\"post_failover\":" ++ (x ++ (codes ",\"post_unsuccessful\":" ++ (y ++ (codes ",\"pre_failover\":" ++ (z ++ codes "}"))))))
    ++ (codes ",\"nodes\":" ++ (k ++ (codes ",\"now\":" ++ (n ++ (codes ",\"pseudo\":" ++ (e ++ (codes ",\"servers\":" ++ (s ++ codes ",\"turns\":[],\"version\":1}"))))))))))))))))))) ++ codes "\n"
    ≡ codes "{\"aliases\":" ++ (a ++ ((codes ",\"block\":" ++ b) ++ (codes ",\"blocks\":" ++ (p ++ (codes ",\"filters\":{\"intermediate\":" ++ (i ++ (codes ",\"master\":" ++ (m ++ ((codes "},\"gtid\":" ++ g)
    ++ (codes ",\"hooks\":{\"post_failover\":" ++ (x ++ (codes ",\"post_unsuccessful\":" ++ (y ++ (codes ",\"pre_failover\":" ++ (z
    ++ ((codes "},\"nodes\":" ++ k) ++ ((codes ",\"now\":" ++ n) ++ ((codes ",\"pseudo\":" ++ e) ++ (codes ",\"servers\":" ++ (s ++ codes ",\"turns\":[],\"version\":1}\n"))))))))))))))))))))
whole_shape a b p i m g x y z k n e s = simp append_assoc

pub whole_text : (w : World) (s : Scenario) (now : ℕ) → dump_text w s now ≡ joined (whole_parts w s now)
unfolding dump_text dump_data escape_byte digits
whole_text w s now =
    whole_shape (compact_text (object (aliases_data s.aliases))) (decimal s.block) (compact_text (object (blocks_data s.blocks))) (compact_text (list_data string s.filters.intermediate.texts)) (compact_text (list_data string s.filters.master.texts)) (flag_text w.gtid)
    (compact_text (list_data hook_data s.hooks.post_failover)) (compact_text (list_data hook_data s.hooks.post_unsuccessful)) (compact_text (list_data hook_data s.hooks.pre_failover)) (decimal s.nodes) (decimal now)
    (decimal s.pseudo) (servers_text w)
