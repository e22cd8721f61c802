-- The examples compute.
use Rattle.std.proofs.Common.{refl, lit<}
use Rattle.std.specs.Fmt.{digits}
use Rattle.module_model.specs.Examples.{Examples, calls_import, renames}
use Rattle.module_model.proofs.Output.{run_means}

pub examples : Examples
unfolding digits
examples = record {
  calls_import_small = refl;
  calls_import_means = refl;
  calls_import_runs = refl;
  calls_import_reads = run_means calls_import refl (lit< tt);
  renames_small = refl;
  renames_means = refl;
  renames_runs = refl;
  renames_reads = run_means renames refl (lit< tt);
  empty_module_small = refl;
  empty_module_means = refl;
  empty_module_runs = refl;
  empty_module_reads = refl;
  import_left = refl;
  name_left = refl;
}
