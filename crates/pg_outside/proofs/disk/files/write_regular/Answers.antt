use Rattle.std.proofs.Common.{ℕ, List, refl, sym, subst}
use Rattle.pg_outside.specs.Inside.disk.Disks.{HoldsNow}
use Rattle.pg_outside.specs.Inside.disk.Writes.{IsDeep, StandsFor}
use Rattle.pg_outside.proofs.Causes.{still_because, because_unfollowed, passed_since}
use Rattle.pg_outside.proofs.DiskWriting.{Leads, leads_old, no_other, is_full, replaces_found, replaces_fails, nothing_failed, writes_nothing}
use Rattle.pg_outside.proofs.Results.{on_err, no_value}
use Rattle.pg_outside.proofs.disk.files.write_regular.Goals as goal

pub returns : goal.returns
returns g c =
    let stands : HoldsNow (g.S.System.told c.follow.new.system) (StandsFor c.as_str.result.now c.in_ok-found.found.file c.args.name.now) =
    subst (λ (l : List ℕ). HoldsNow (g.S.System.told c.follow.new.system) (StandsFor l c.in_ok-found.found.file c.args.name.now)) (sym c.as_str.ensures.value) c.in_ok-found.ensures.found.1 in
    let leads : HoldsNow (g.S.System.told c.follow.new.system) (Leads c.as_str.result.now c.args.name.now c.args.kept.now.items c.in_ok-mode.mode) =
    leads_old _ c.args.name.now c.args.kept.now.items _ c.args.old c.in_ok-mode.mode _ _ c.requires.old c.follow.ensures.same stands c.in_ok-mode.ensures.mode c.requires.regular c.requires.free in
    record {
      ok = replaces_found c.replace_kept.result _ _ _ _ _ _ _ _ _ _ _ _ c.in_ok-found.ensures.found.0 c.follow.ensures.same leads c.replace_kept.ensures.ok;
      err = replaces_fails c.replace_kept.result _ _ _ _ _ _ _ _ _ c.follow.ensures.same leads c.replace_kept.ensures.err;
      cause = still_because c.replace_kept.result _ _ _ _ _ _ _ _ _ _ _ c.replace_kept.ensures.cause c.in_ok-found.ensures.found.0 (λ b. absurd b) (λ b. absurd b) (λ b. absurd b)
          (λ all. is_full _ c.args.name.now _ _ _ stands all.0 all.1);
    }

pub returns-in_err-found : goal.returns-in_err-found
returns-in_err-found g c = record {
  ok = no_value _ c.from_residual.result c.from_residual.ensures.0;
  err = on_err c.from_residual.result (refl, nothing_failed _ _ _ _ _ c.follow.ensures.same);
  cause = passed_since c.from_residual.result _ _ _ _ _ _ _ _ _ _ _ _ c.from_residual.ensures.1 c.in_err-found.ensures.cause refl (λ b. absurd b) (λ o. o) (λ d. d) (λ b. absurd b);
}

pub returns-in_err-mode : goal.returns-in_err-mode
returns-in_err-mode g c =
    let deep = no_other _ c.args.name.now _ c.args.old (IsDeep c.args.name.now) _ _ c.requires.old c.follow.ensures.same c.in_ok-found.ensures.found.1 c.in_err-mode.ensures.other in
    writes_nothing c.from_residual-in_err-mode.result _ _ _ _ _ _ _ _ _ c.from_residual-in_err-mode.ensures.0 c.from_residual-in_err-mode.ensures.1 refl c.follow.ensures.same
    (because_unfollowed _ _ _ _ _ _ _ c.in_err-mode.ensures.error c.in_ok-found.ensures.found.0 deep)
