-- The numbers by which the definitions know names and roles.
use Rattle.std.specs.Prelude.{ℕ, List, Option, None, Some}
use Rattle.xml_model.specs.Elements.{rights_role, rights_context_role, asset_context_role, inherit_context_role, version_role, object_uid_role, asset_uid_role, inherit_uid_role}
use Rattle.xml_model.specs.Elements.{agreement_role, asset_role, inherit_role, key_info_role, skipped_role, permission_role, reference_role, play_role, display_role, execute_role}
use Rattle.xml_model.specs.Elements.{print_role, export_role, constraint_role, count_role, timed_count_role, datetime_role, start_role, end_role, interval_role, accumulated_role}
use Rattle.xml_model.specs.Elements.{rights_name, context_name, version_name, uid_name, agreement_name, asset_name, inherit_name, key_info_name, permission_name, play_name, display_name}
use Rattle.xml_model.specs.Elements.{execute_name, print_name, export_name, constraint_name, count_name, timed_count_name, datetime_name, start_name, end_name, interval_name, accumulated_name}
use Rattle.xml_model.specs.Elements.{rights_bytes, context_bytes, version_bytes, uid_bytes, agreement_bytes, asset_bytes, inherit_bytes, key_info_bytes, permission_bytes}
use Rattle.xml_model.specs.Elements.{play_bytes, display_bytes, execute_bytes, print_bytes, export_bytes, constraint_bytes, count_bytes}
use Rattle.xml_model.specs.Elements.{timed_count_bytes, datetime_bytes, start_bytes, end_bytes, interval_bytes, accumulated_bytes}
use Rattle.xml_table.specs.declared.Role.{Role}
use Rattle.xml_table.specs.declared.Name.{Name}

abbrev pub role_code : Role → ℕ
role_code Role.Rights = rights_role
role_code Role.RightsContext = rights_context_role
role_code Role.AssetContext = asset_context_role
role_code Role.InheritContext = inherit_context_role
role_code Role.Version = version_role
role_code Role.ObjectUid = object_uid_role
role_code Role.AssetUid = asset_uid_role
role_code Role.InheritUid = inherit_uid_role
role_code Role.Agreement = agreement_role
role_code Role.Asset = asset_role
role_code Role.Inherit = inherit_role
role_code Role.KeyInfo = key_info_role
role_code Role.Skipped = skipped_role
role_code Role.Permission = permission_role
role_code Role.Reference = reference_role
role_code Role.Play = play_role
role_code Role.Display = display_role
role_code Role.Execute = execute_role
role_code Role.Print = print_role
role_code Role.Export = export_role
role_code Role.Constraint = constraint_role
role_code Role.Count = count_role
role_code Role.TimedCount = timed_count_role
role_code Role.Datetime = datetime_role
role_code Role.Start = start_role
role_code Role.End = end_role
role_code Role.Interval = interval_role
role_code Role.Accumulated = accumulated_role

abbrev pub name_code : Name → ℕ
name_code Name.Rights = rights_name
name_code Name.Context = context_name
name_code Name.Version = version_name
name_code Name.Uid = uid_name
name_code Name.Agreement = agreement_name
name_code Name.Asset = asset_name
name_code Name.Inherit = inherit_name
name_code Name.KeyInfo = key_info_name
name_code Name.Permission = permission_name
name_code Name.Play = play_name
name_code Name.Display = display_name
name_code Name.Execute = execute_name
name_code Name.Print = print_name
name_code Name.Export = export_name
name_code Name.Constraint = constraint_name
name_code Name.Count = count_name
name_code Name.TimedCount = timed_count_name
name_code Name.Datetime = datetime_name
name_code Name.Start = start_name
name_code Name.End = end_name
name_code Name.Interval = interval_name
name_code Name.Accumulated = accumulated_name

-- the number of a name; 0 for every other name
abbrev pub name_number : Option Name → ℕ
name_number None = 0
name_number (Some n) = name_code n

-- a name as bytes
abbrev pub name_text : Name → List ℕ
name_text Name.Rights = rights_bytes
name_text Name.Context = context_bytes
name_text Name.Version = version_bytes
name_text Name.Uid = uid_bytes
name_text Name.Agreement = agreement_bytes
name_text Name.Asset = asset_bytes
name_text Name.Inherit = inherit_bytes
name_text Name.KeyInfo = key_info_bytes
name_text Name.Permission = permission_bytes
name_text Name.Play = play_bytes
name_text Name.Display = display_bytes
name_text Name.Execute = execute_bytes
name_text Name.Print = print_bytes
name_text Name.Export = export_bytes
name_text Name.Constraint = constraint_bytes
name_text Name.Count = count_bytes
name_text Name.TimedCount = timed_count_bytes
name_text Name.Datetime = datetime_bytes
name_text Name.Start = start_bytes
name_text Name.End = end_bytes
name_text Name.Interval = interval_bytes
name_text Name.Accumulated = accumulated_bytes
