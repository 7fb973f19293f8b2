-- What is passed on of world_openings: lemmas that are cited above.
pub use Rattle.world_openings.proofs.Opened
pub use Rattle.world_openings.proofs.OpenedWorlds
