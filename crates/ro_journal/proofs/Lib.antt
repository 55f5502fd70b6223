mod CopyCounts
mod StepCounts
