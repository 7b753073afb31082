-- The table of starred cases, by one computed check. Assumes nothing.
use mathlib.Core.Path.{◌≡◌, refl}
use mathlib.Core.Bool.{true}
use lib.Ieee.{of_bits, eq, size, round, to_bits}
use Rattle.integer.specs.Round.{floor, ceil, clamp}
use Rattle.word.specs.Buffer.{joined, put_at}
use Rattle.word.specs.Digits.{number_be, digits_be}
use Rattle.word.specs.Word.{nat_be, bytes_be, words_at, words_out}
use Rattle.hexadecimal.specs.Hex.{is_hex, digit_of, hexes, hex_at, digit_byte, hex_digits}
use Rattle.double.specs.Double.{scalable, rounded, accepted}
use Rattle.gradient.specs.Problem.{F, cold_start}
use Rattle.gradient.specs.Scheme.{linear, unclamped, next_z, next_y, step, iterate}
use Rattle.gradient.specs.Bounds.{magnitude, width, range_p, range_y, range_a, range_b, slack, weight, next_e, next_q, error_step, error_after}
use Rattle.gradient.specs.Demand.{every, every2, start_within}
use Rattle.gradient.specs.Exact.{exact_linear}
use Rattle.optimum.specs.Optimum.{gradient_step, projected_step, difference, residual, optimum_bound}
use Rattle.image.specs.Sizes.{sound}
use Rattle.image.specs.Layout.{sizes_of, lower_at, upper_at, momentum_at, limit_at, entry_of, command_at, problem_at, problem_of}
use Rattle.image.specs.Checks.{head_number, body_number}
use Rattle.interface.specs.Tables.{symmetry_test, others_at, margin_at, total_at, least_margin, margin_of, largest_total, momentum_range, momentum_ratio, range_test, row_test, tables_number, image_number}
use Rattle.interface.specs.Calls.{values_of, inputs_of, start_of, cold_answer, values_within, call_number, solvable_number, solve_number, commands_after, bounds_after, distance_after, solve_answer}
use Rattle.interface.specs.Demand.{with_sweeps}
use Rattle.line.specs.Line.{line_at}
use Rattle.frame.specs.Frame.{due_at, head_of, total, word_of}
use Rattle.lines.specs.Lines.{line_fault, line_value, line_word}
use Rattle.sheet.specs.Sheet.{sheet_image, sheet_number, sheet_words}
use Rattle.intake.specs.Intake.{design_number, intake_number}
use Rattle.page_line.specs.Effect.{is_kept, effect_of, line_text}
use Rattle.design_page.specs.Page.{design_count, page_line, page_number, sheet_page}
use Rattle.word_file.specs.WordFile.{is_word_file, file_words}
use Rattle.text.specs.Text.{distance_digits, line_of, lines, refusal}
use Rattle.label_files.specs.Files.{target_form, form_number}
use Rattle.label_text.specs.Label.{files_number, image_text, label_text}
use Rattle.cases.specs.Cases.{solves_from, holds, table, S, two, following, varying, limited, skewed, halved, full, gained, uneven, wide}

pub starred : every holds table ≡ true
unfolding floor ceil clamp number_be digits_be nat_be bytes_be words_at words_out scalable rounded accepted of_bits F cold_start linear unclamped next_z next_y step iterate magnitude width range_p range_y range_a range_b slack weight next_e next_q error_step error_after exact_linear gradient_step projected_step difference residual optimum_bound every every2 start_within sound sizes_of lower_at upper_at momentum_at limit_at entry_of command_at problem_at problem_of head_number body_number symmetry_test others_at margin_at total_at least_margin margin_of largest_total momentum_range momentum_ratio range_test row_test tables_number image_number values_of inputs_of start_of cold_answer values_within call_number solvable_number solve_number commands_after bounds_after distance_after solve_answer with_sweeps put_at eq size round to_bits joined is_hex digit_of hexes hex_at digit_byte hex_digits line_at due_at head_of total word_of line_fault line_value line_word sheet_image sheet_number sheet_words design_number intake_number is_kept effect_of line_text design_count page_line page_number sheet_page is_word_file file_words distance_digits line_of lines refusal target_form form_number files_number image_text label_text solves_from holds table S two following varying limited skewed halved full gained uneven wide
starred = refl
