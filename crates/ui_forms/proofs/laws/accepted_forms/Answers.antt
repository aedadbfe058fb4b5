use Rattle.ui_forms.proofs.FormLaws.{forms-small, imports-found, path-kept, paths-valid}
use Rattle.ui_forms.proofs.VerdictLaws.{export-path, exports-small}
use Rattle.ui_forms.proofs.laws.accepted_forms.Goals as goal

pub returns : goal.returns
returns c = record {
  path = path-kept;
  found = imports-found;
  valid = paths-valid;
  small = forms-small;
  export = exports-small;
  export_path = export-path;
}
