-- The table, by one computed check. Assumes nothing.
use mathlib.Core.Path.{◌≡◌, refl}
use mathlib.Core.Bool.{true}
use Rattle.integer.specs.Round.{floor, ceil, clamp}
use Rattle.word.specs.Buffer.{put_at}
use Rattle.word.specs.Digits.{number_be, digits_be}
use Rattle.word.specs.Word.{nat_be, bytes_be, words_at, words_out}
use Rattle.gradient.specs.Problem.{F}
use Rattle.gradient.specs.Scheme.{next_y}
use Rattle.gradient.specs.Bounds.{magnitude, width, range_p, range_y, range_a, range_b, weight}
use Rattle.gradient.specs.Demand.{every, every2, start_within}
use Rattle.image.specs.Sizes.{sound}
use Rattle.image.specs.Layout.{sizes_of, lower_at, upper_at, momentum_at, limit_at, entry_of, command_at, problem_at, problem_of}
use Rattle.image.specs.Checks.{head_number, body_number}
use Rattle.interface.specs.Tables.{symmetry_test, others_at, margin_at, total_at, least_margin, largest_total, momentum_range, momentum_ratio, range_test, row_test, tables_number, image_number}
use Rattle.interface.specs.Calls.{values_of, start_of, values_within}
use Rattle.interface.specs.Demand.{with_sweeps}
use Rattle.ranges.specs.Interval.{input_intervals, taken_end, interval_difference}
use Rattle.ranges.specs.Sweeps.{row_interval, linear_interval, unclamped_interval, clamp_interval, next_z_interval, next_y_interval, interval_step, interval_iterate}
use Rattle.ranges.specs.Claim.{interval_within}
use Rattle.range_interface.specs.Calls.{intervals_at, intervals_out, ranges_within, range_call_number, range_solvable_number, range_solve_number, ranges_after, range_answer}
use Rattle.range_cases.specs.Cases.{holds, S, pair, table}

pub range_cases : every holds table ≡ true
unfolding floor ceil clamp put_at number_be digits_be nat_be bytes_be words_at words_out F next_y magnitude width range_p range_y range_a range_b weight every every2 start_within sound sizes_of lower_at upper_at momentum_at limit_at entry_of command_at problem_at problem_of head_number body_number symmetry_test others_at margin_at total_at least_margin largest_total momentum_range momentum_ratio range_test row_test tables_number image_number values_of start_of values_within with_sweeps input_intervals taken_end interval_difference row_interval linear_interval unclamped_interval clamp_interval next_z_interval next_y_interval interval_step interval_iterate interval_within intervals_at intervals_out ranges_within range_call_number range_solvable_number range_solve_number ranges_after range_answer holds S pair table
range_cases = refl
