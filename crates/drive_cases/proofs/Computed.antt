-- The runs of each table, by one computed check. Assumes nothing.
use mathlib.Core.Path.{◌≡◌, refl}
use mathlib.Core.Bool.{true}
use Rattle.integer.specs.Round.{floor, ceil, clamp}
use Rattle.word.specs.Buffer.{put_at}
use Rattle.word.specs.Digits.{number_be, digits_be}
use Rattle.word.specs.Word.{nat_be, bytes_be, words_at, words_out}
use Rattle.gradient.specs.Problem.{F, cold_start}
use Rattle.gradient.specs.Scheme.{linear, unclamped, next_z, next_y, step, iterate}
use Rattle.gradient.specs.Bounds.{magnitude, width, range_p, range_y, range_a, range_b, slack, weight, next_e, next_q, error_step, error_after}
use Rattle.gradient.specs.Demand.{every, every2, start_within}
use Rattle.gradient.specs.Exact.{exact_linear}
use Rattle.optimum.specs.Optimum.{gradient_step, projected_step, difference, residual, optimum_bound}
use Rattle.image.specs.Sizes.{sound}
use Rattle.image.specs.Layout.{sizes_of, lower_at, upper_at, momentum_at, limit_at, entry_of, command_at, problem_at, problem_of}
use Rattle.image.specs.Checks.{head_number, body_number}
use Rattle.interface.specs.Tables.{symmetry_test, others_at, margin_at, total_at, least_margin, margin_of, largest_total, momentum_range, momentum_ratio, range_test, row_test, tables_number, image_number}
use Rattle.interface.specs.Calls.{values_of, inputs_of, start_of, cold_answer, values_within, call_number, solvable_number, solve_number, commands_after, bounds_after, distance_after, solve_answer}
use Rattle.interface.specs.Demand.{with_sweeps}
use Rattle.drive.specs.Layout.{held_image, held_start, held_waiting, held_answer, held_count, held_own, held_common}
use Rattle.drive.specs.Move.{moved_at, next_start, first_commands}
use Rattle.drive.specs.Calls.{imaged_number, imaged, make_number, blank_drive, make_drive, new_number, place_number, put_shares, ask_number, ask_answer, charged, put_answer, ask_drive, parts_number, commit_number, commit_answer, commit_drive, period_number, period_drive, done_drive}
use Rattle.drive.specs.Run.{number_on, answer_on, drive_on, written_by, after_call}
use Rattle.drive_cases.specs.Cases.{runs_from, holds, commit_runs, head_runs, sweep_runs, S, widening, paired}

pub commit_runs_lem : every holds commit_runs ≡ true
unfolding floor ceil clamp number_be digits_be nat_be bytes_be words_at words_out F cold_start linear unclamped next_z next_y step iterate magnitude width range_p range_y range_a range_b slack weight next_e next_q error_step error_after exact_linear gradient_step projected_step difference residual optimum_bound every every2 start_within sound sizes_of lower_at upper_at momentum_at limit_at entry_of command_at problem_at problem_of head_number body_number symmetry_test others_at margin_at total_at least_margin margin_of largest_total momentum_range momentum_ratio range_test row_test tables_number image_number values_of inputs_of start_of cold_answer values_within call_number solvable_number solve_number commands_after bounds_after distance_after solve_answer with_sweeps put_at held_image held_start held_waiting held_answer held_count held_own held_common moved_at next_start first_commands imaged_number imaged make_number blank_drive make_drive new_number place_number put_shares ask_number ask_answer charged put_answer ask_drive parts_number commit_number commit_answer commit_drive period_number period_drive done_drive number_on answer_on drive_on written_by after_call runs_from holds S widening paired commit_runs
commit_runs_lem = refl

pub head_runs_lem : every holds head_runs ≡ true
unfolding floor ceil clamp number_be digits_be nat_be bytes_be words_at words_out F cold_start linear unclamped next_z next_y step iterate magnitude width range_p range_y range_a range_b slack weight next_e next_q error_step error_after exact_linear gradient_step projected_step difference residual optimum_bound every every2 start_within sound sizes_of lower_at upper_at momentum_at limit_at entry_of command_at problem_at problem_of head_number body_number symmetry_test others_at margin_at total_at least_margin margin_of largest_total momentum_range momentum_ratio range_test row_test tables_number image_number values_of inputs_of start_of cold_answer values_within call_number solvable_number solve_number commands_after bounds_after distance_after solve_answer with_sweeps put_at held_image held_start held_waiting held_answer held_count held_own held_common moved_at next_start first_commands imaged_number imaged make_number blank_drive make_drive new_number place_number put_shares ask_number ask_answer charged put_answer ask_drive parts_number commit_number commit_answer commit_drive period_number period_drive done_drive number_on answer_on drive_on written_by after_call runs_from holds S widening paired head_runs
head_runs_lem = refl

pub sweep_runs_lem : every holds sweep_runs ≡ true
unfolding floor ceil clamp number_be digits_be nat_be bytes_be words_at words_out F cold_start linear unclamped next_z next_y step iterate magnitude width range_p range_y range_a range_b slack weight next_e next_q error_step error_after exact_linear gradient_step projected_step difference residual optimum_bound every every2 start_within sound sizes_of lower_at upper_at momentum_at limit_at entry_of command_at problem_at problem_of head_number body_number symmetry_test others_at margin_at total_at least_margin margin_of largest_total momentum_range momentum_ratio range_test row_test tables_number image_number values_of inputs_of start_of cold_answer values_within call_number solvable_number solve_number commands_after bounds_after distance_after solve_answer with_sweeps put_at held_image held_start held_waiting held_answer held_count held_own held_common moved_at next_start first_commands imaged_number imaged make_number blank_drive make_drive new_number place_number put_shares ask_number ask_answer charged put_answer ask_drive parts_number commit_number commit_answer commit_drive period_number period_drive done_drive number_on answer_on drive_on written_by after_call runs_from holds S widening paired sweep_runs
sweep_runs_lem = refl
