use Rattle.std.proofs.Common.{◌≡◌, ◌+◌, ◌≤◌, false, inl, inr, sym, arith}
use Rattle.audit_log.proofs.Prelude.{AllWithin, IsClear, Recovery, at_read, is_unended}
use Rattle.audit_log.proofs.Linking.{clear-more}
use Rattle.audit_log.proofs.index.Index.clear_with.Goals as goal

pub returns-then-recovery : goal.returns-then-recovery
returns-then-recovery c d now late =
    let xs = c.args.recoveries.now in
    let i = c.args.i in
    let x = c.index-recoveries-i.result in
    let closed : is_unended x ≡ false = cc in
    at_read xs (λ (r : Recovery). AllWithin (IsClear r.cluster now) xs 0 (i + 1)) i x c.requires.within c.index-recoveries-i.is
    (clear-more xs c.args.self.now c.requires.index now i c.in_ok-before.before x c.requires.within c.index-recoveries-i.is (sym c.in_ok-before.ensures) closed (inl c.if-recovery.true) late) d

pub returns : goal.returns
returns c d now late =
    let xs = c.args.recoveries.now in
    let i = c.args.i in
    let x = c.index-recoveries-i.result in
    let closed : is_unended x ≡ false = cc in
    let until : x.begun.0 + x.block ≤ now = omega (arith, late, c.max.ensures, c.in_ok-until.ensures.1) in
    at_read xs (λ (r : Recovery). AllWithin (IsClear r.cluster now) xs 0 (i + 1)) i x c.requires.within c.index-recoveries-i.is
    (clear-more xs c.args.self.now c.requires.index now i c.in_ok-before.before x c.requires.within c.index-recoveries-i.is (sym c.in_ok-before.ensures) closed (inr until)
    (omega (arith, late, c.max.ensures))) d
